use Rattle.std.proofs.Common.{take}
use Rattle.spatial_index.specs.Levels.{HasSameItems, HasPromised}
use Rattle.spatial_index.proofs.level.Level.promise.Given as goal

abbrev pub invariant-loop-number : goal.invariant-loop-number
invariant-loop-number l = record {
  same : HasSameItems l.initial.cells.items l.cells.items;
  promised : HasPromised l.initial.cells.items l.cells.items (take l.number-index l.numbers);
}
