use Rattle.std.proofs.Common.{FitsSigned, w64, rules, ◌+ℤ◌}
use mir.Syntax.{w128}
use Rattle.std.proofs.lemmas.Int.{to_z-of_z}
use Rattle.svg_shapes.proofs.boxes.FineBox.holds.Goals as goal

pub returns-then-is_from : goal.returns-then-is_from
returns-then-is_from c =
    let fits_l : FitsSigned w64 c.args.self.x = search rules in
    let fits_r : FitsSigned w64 (c.args.self.x +ℤ c.args.self.w) = search rules in
    let fits_t : FitsSigned w64 c.args.self.y = search rules in
    let fits_b : FitsSigned w64 (c.args.self.y +ℤ c.args.self.h) = search rules in
    let fits_w : FitsSigned w64 c.args.self.w = search rules in
    let fits_h : FitsSigned w64 c.args.self.h = search rules in
    let fits_x : FitsSigned w128 c.args.x = c.ranges.x in
    let fits_y : FitsSigned w128 c.args.y = c.ranges.y in
    let across = simp to_z-of_z at (c.is_from.ensures.0 c.if-is_from.true) in
    let tests_down = simp to_z-of_z at c.is_from-then-is_from.ensures in (
      λ t. let down = tests_down.0 t in
          record { left = across.0; right = across.1; top = down.0; bottom = down.1 },
      λ h. tests_down.1 (h.top, h.bottom),
    )

pub returns-else-is_from : goal.returns-else-is_from
returns-else-is_from c =
    let fits_l : FitsSigned w64 c.args.self.x = search rules in
    let fits_w : FitsSigned w64 c.args.self.w = search rules in
    let fits_r : FitsSigned w64 (c.args.self.x +ℤ c.args.self.w) = search rules in
    let fits_x : FitsSigned w128 c.args.x = c.ranges.x in
    let tests = simp to_z-of_z at c.is_from.ensures in (
      λ t. let no : ⊥ = cc in absurd no,
      λ h. tests.1 (h.left, h.right),
    )
