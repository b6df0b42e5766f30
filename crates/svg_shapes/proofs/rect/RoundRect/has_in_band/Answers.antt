use Rattle.std.proofs.Common.{FitsSigned, w64, rules, unsigned_abs, subst, sym}
use mir.Syntax.{w128}
use Rattle.std.proofs.lemmas.Int.{to_z-of_z}
use Rattle.svg_shapes.specs.declared.rect.RoundRect.{RoundRect}
use Rattle.svg_shapes.specs.Rects.{RectHolds}
use Rattle.svg_shapes.proofs.RectLemmas.{in_band-by}
use Rattle.svg_shapes.proofs.rect.RoundRect.has_in_band.Goals as goal

pub returns-then-holds : goal.returns-then-holds
returns-then-holds c =
    let fits_l : FitsSigned w64 c.args.self.l = search rules in
    let fits_t : FitsSigned w64 c.args.self.t = search rules in
    let fits_r : FitsSigned w64 c.args.self.r = search rules in
    let fits_b : FitsSigned w64 c.args.self.b = search rules in
    let fits_rx : FitsSigned w64 c.args.self.rx = search rules in
    let fits_ry : FitsSigned w64 c.args.self.ry = search rules in
    let fits_width : FitsSigned w64 c.args.width = c.ranges.width in
    let fits_x : FitsSigned w128 c.args.x = c.ranges.x in
    let fits_y : FitsSigned w128 c.args.y = c.ranges.y in
    let outer = simp to_z-of_z at c.grown.ensures.value in
    let inner = simp to_z-of_z at c.shrunk.ensures.value in
    let within = simp to_z-of_z at (c.holds.ensures.0 c.if-holds.true) in
    let tests = simp to_z-of_z at c.holds-then-holds.ensures in
    in_band-by c.args.self c.grown.result c.shrunk.result (unsigned_abs c.args.width) c.args.x c.args.y c.holds-then-holds.result
    outer inner within tests

pub returns-else-holds : goal.returns-else-holds
returns-else-holds c =
    let fits_l : FitsSigned w64 c.args.self.l = search rules in
    let fits_t : FitsSigned w64 c.args.self.t = search rules in
    let fits_r : FitsSigned w64 c.args.self.r = search rules in
    let fits_b : FitsSigned w64 c.args.self.b = search rules in
    let fits_rx : FitsSigned w64 c.args.self.rx = search rules in
    let fits_ry : FitsSigned w64 c.args.self.ry = search rules in
    let fits_width : FitsSigned w64 c.args.width = c.ranges.width in
    let fits_x : FitsSigned w128 c.args.x = c.ranges.x in
    let fits_y : FitsSigned w128 c.args.y = c.ranges.y in
    let outer = simp to_z-of_z at c.grown.ensures.value in
    let tests = simp to_z-of_z at c.holds.ensures in (
      λ t. let no : ⊥ = cc in absurd no,
      λ h. tests.1 (subst (λ (g : RoundRect). RectHolds g c.args.x c.args.y) (sym outer) h.within),
    )
