-- The walk through all levels.
use Rattle.stacking.proofs.LevelLemmas.{layer-is}
use Rattle.stacking.proofs.laws.layer_is_in_parts.Goals as goal

pub returns : goal.returns
returns c = layer-is
