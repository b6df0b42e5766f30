-- What tells that the perimeter holds the point is the test.
use Rattle.std.proofs.Common.{FitsSigned, w64, unsigned_abs}
use mir.Syntax.{w128}
use Rattle.std.proofs.lemmas.Int.{to_z-of_z}
use Rattle.svg_shapes.proofs.HeldLemmas.{same_perimeter}
use Rattle.svg_shapes.proofs.shape.Shape.perimeter.Goals as goal

pub returns-clause-test : goal.returns-clause-test
returns-clause-test c =
    let fits_x : FitsSigned w128 c.args.x = c.ranges.x in
    let fits_y : FitsSigned w128 c.args.y = c.ranges.y in
    let fits_width : FitsSigned w64 c.args.width = c.ranges.width in
    let width = unsigned_abs c.args.width in
    let held = simp to_z-of_z at c.has_on_perimeter.ensures in
    same_perimeter c.has_on_perimeter.result c.args.self.now width c.args.cap c.args.x c.args.y held
