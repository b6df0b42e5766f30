-- What tells that the area covers the point is the test.
use Rattle.std.proofs.Common.{FitsSigned}
use mir.Syntax.{w128}
use Rattle.std.proofs.lemmas.Int.{to_z-of_z}
use Rattle.image_maps.proofs.TestedLemmas.{is_test}
use Rattle.image_maps.proofs.area.AreaShape.covers.Goals as goal

pub returns-clause-test : goal.returns-clause-test
returns-clause-test c =
    let fits_x : FitsSigned w128 c.args.x = c.ranges.x in
    let fits_y : FitsSigned w128 c.args.y = c.ranges.y in
    is_test c.args.self.now c.args.x c.args.y c.holds.result (simp to_z-of_z at c.holds.ensures)
