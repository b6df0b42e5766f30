use Rattle.spatial_index.proofs.ChangeLemmas.{AreBuilt}
use Rattle.spatial_index.proofs.grid.Grid.rebuilt.Given as goal

abbrev pub invariant-loop-item : goal.invariant-loop-item
invariant-loop-item l = AreBuilt l.initial.grid l.grid l.items l.item-index
