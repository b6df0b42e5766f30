use Rattle.poly_shapes.proofs.TurnedLemmas.{winding-turned}
use Rattle.poly_shapes.proofs.laws.turning_negates_the_winding.Goals as goal

pub returns : goal.returns
returns c = winding-turned
