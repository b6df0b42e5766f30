-- What tells that the interior holds the point is the test.
use Rattle.std.proofs.Common.{FitsSigned}
use mir.Syntax.{w128}
use Rattle.std.proofs.lemmas.Int.{to_z-of_z}
use Rattle.svg_shapes.proofs.HeldLemmas.{same_interior}
use Rattle.svg_shapes.proofs.shape.Shape.interior.Goals as goal

pub returns-clause-test : goal.returns-clause-test
returns-clause-test c =
    let fits_x : FitsSigned w128 c.args.x = c.ranges.x in
    let fits_y : FitsSigned w128 c.args.y = c.ranges.y in
    let held = simp to_z-of_z at c.has_in_interior.ensures in
    same_interior c.has_in_interior.result c.args.self.now c.args.rule c.args.x c.args.y held
