use Rattle.std.proofs.Common.{take}
use Rattle.spatial_index.specs.Levels.{HasTaken}
use Rattle.spatial_index.proofs.level.Level.take_out.Given as goal

abbrev pub invariant-loop-number : goal.invariant-loop-number
invariant-loop-number l = HasTaken l.initial.cells.items l.cells.items (take l.number-index l.numbers) l.item
