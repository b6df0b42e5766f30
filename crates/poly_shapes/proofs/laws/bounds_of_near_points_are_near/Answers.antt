use Rattle.poly_shapes.proofs.NearLemmas.{bounds_of-near}
use Rattle.poly_shapes.proofs.laws.bounds_of_near_points_are_near.Goals as goal

pub returns : goal.returns
returns c = bounds_of-near
