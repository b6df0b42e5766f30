use Rattle.std.proofs.Common.{FitsSigned, w64, rules}
use mir.Syntax.{w128}
use Rattle.std.proofs.lemmas.Int.{to_z-of_z}
use Rattle.corner_shapes.proofs.rounded.Rounded.has_between_edges.Goals as goal

pub returns-then-is_between : goal.returns-then-is_between
returns-then-is_between c =
    let fits_l : FitsSigned w64 c.args.self.now.l = search rules in
    let fits_r : FitsSigned w64 c.args.self.now.r = search rules in
    let fits_t : FitsSigned w64 c.args.self.now.t = search rules in
    let fits_b : FitsSigned w64 c.args.self.now.b = search rules in
    let fits_x : FitsSigned w128 c.args.point.x = search rules in
    let fits_y : FitsSigned w128 c.args.point.y = search rules in
    let across = simp to_z-of_z at (c.is_between.ensures.0 c.if-is_between.true) in
    let tests_down = simp to_z-of_z at c.is_between-then-is_between.ensures in (
      λ t. let down = tests_down.0 t in
          record { left = across.0; right = across.1; top = down.0; bottom = down.1 },
      λ h. tests_down.1 (h.top, h.bottom),
    )
