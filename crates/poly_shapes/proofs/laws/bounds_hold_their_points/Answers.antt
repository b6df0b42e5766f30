use Rattle.poly_shapes.proofs.ExtentLemmas.{bounds_of-holds}
use Rattle.poly_shapes.proofs.laws.bounds_hold_their_points.Goals as goal

pub returns : goal.returns
returns c = bounds_of-holds
