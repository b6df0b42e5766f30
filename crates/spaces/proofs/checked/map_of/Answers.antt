-- The ranges of a style are those of the maps.
use Rattle.spaces.proofs.WidthLemmas.{function-in_range}
use Rattle.spaces.proofs.checked.map_of.Goals as goal

pub matrix-requires : goal.matrix-requires
matrix-requires c = function-in_range c.args.function.now c.requires
