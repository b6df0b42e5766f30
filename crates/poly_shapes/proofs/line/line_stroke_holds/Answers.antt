use Rattle.std.proofs.Common.{FitsSigned, IsTrue, unsigned_abs, arith, ◌∙◌}
use mir.Syntax.{w128}
use Rattle.std.proofs.lemmas.Int.{ints, to_z-of_z}
use Rattle.poly_shapes.specs.Outline.{line}
use Rattle.poly_shapes.specs.Stroke.{strokes}
use Rattle.poly_shapes.proofs.DrawnLemmas.{false_unless}
use Rattle.poly_shapes.proofs.NearLemmas.{stroked-near}
use Rattle.poly_shapes.proofs.LineLemmas.{ends-placed}
use Rattle.poly_shapes.proofs.line.line_stroke_holds.Goals as goal

pub returns-else-is_near : goal.returns-else-is_near
returns-else-is_near c =
    let from = c.args.from in
    let to = c.args.to in
    let fits_x : FitsSigned w128 c.args.x = c.ranges.x in
    let fits_y : FitsSigned w128 c.args.y = c.ranges.y in
    let tests = simp to_z-of_z at c.is_near.ensures in
    let width = unsigned_abs c.args.width in
    c.if-is_near.false ∙ false_unless (strokes (line from to) width c.args.cap c.args.x c.args.y) (λ e.
    let near = stroked-near (line from to) width c.args.cap c.args.x c.args.y
    (ends-placed from to c.requires.from c.requires.to) (omega (arith, ints)) e in
    let open_too : IsTrue c.is_near.result = tests.1 near in
    let no : ⊥ = cc in no)
