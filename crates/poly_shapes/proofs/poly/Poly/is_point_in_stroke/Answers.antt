use Rattle.std.proofs.Common.{FitsSigned, IsTrue, unsigned_abs, subst, arith, ◌∙◌}
use mir.Syntax.{w128}
use Rattle.std.proofs.lemmas.Int.{ints, to_z-of_z}
use Rattle.poly_shapes.specs.Outline.{IsMeasured}
use Rattle.poly_shapes.specs.Stroke.{strokes}
use Rattle.poly_shapes.proofs.DrawnLemmas.{false_unless}
use Rattle.poly_shapes.proofs.NearLemmas.{stroked-near}
use Rattle.poly_shapes.proofs.poly.Poly.is_point_in_stroke.Goals as goal

pub returns-else-is_near : goal.returns-else-is_near
returns-else-is_near c =
    let fits_x : FitsSigned w128 c.args.x = c.ranges.x in
    let fits_y : FitsSigned w128 c.args.y = c.ranges.y in
    let tests = simp to_z-of_z at c.is_near.ensures in
    let measured = subst IsMeasured c.self.view_is c.self.invariant.0 in
    let width = unsigned_abs c.args.width in
    c.if-is_near.false ∙ false_unless (strokes c.args.self.now width c.args.cap c.args.x c.args.y) (λ e.
    let near = stroked-near c.args.self.now width c.args.cap c.args.x c.args.y measured.placed (omega (arith, ints)) e in
    let open_too : IsTrue c.is_near.result = tests.1 near in
    let no : ⊥ = cc in no)
