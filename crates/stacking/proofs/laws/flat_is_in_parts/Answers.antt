-- The walk through all levels.
use Rattle.stacking.proofs.LevelLemmas.{flat-is}
use Rattle.stacking.proofs.laws.flat_is_in_parts.Goals as goal

pub returns : goal.returns
returns c = flat-is
