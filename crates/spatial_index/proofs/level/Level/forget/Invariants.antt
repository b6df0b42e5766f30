use Rattle.std.proofs.Common.{take}
use Rattle.spatial_index.specs.Levels.{HasSameItems, HasForgotten}
use Rattle.spatial_index.proofs.level.Level.forget.Given as goal

abbrev pub invariant-loop-number : goal.invariant-loop-number
invariant-loop-number l = record {
  same : HasSameItems l.initial.cells.items l.cells.items;
  forgotten : HasForgotten l.initial.cells.items l.cells.items (take l.number-index l.numbers);
}
