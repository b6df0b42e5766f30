use Rattle.std.proofs.Common.{◌≡◌, ◌+◌}
use Rattle.spatial_index.proofs.ChangeLemmas.{AreApplied}
use Rattle.spatial_index.proofs.grid.Grid.apply.Given as goal

abbrev pub invariant-loop-change : goal.invariant-loop-change
invariant-loop-change g l = record {
  applied : AreApplied l.initial.self l.self l.changes l.change-index;
  steps : l.steps ≡ l.initial.steps + l.change-index;
}
