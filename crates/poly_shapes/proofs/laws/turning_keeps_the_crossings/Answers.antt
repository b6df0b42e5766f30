use Rattle.poly_shapes.proofs.TurnedLemmas.{crossings-turned}
use Rattle.poly_shapes.proofs.laws.turning_keeps_the_crossings.Goals as goal

pub returns : goal.returns
returns c = crossings-turned
