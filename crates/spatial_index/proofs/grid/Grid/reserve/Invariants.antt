use Rattle.spatial_index.proofs.ChangeLemmas.{AreForgotten, AreReserved}
use Rattle.spatial_index.proofs.grid.Grid.reserve.Given as goal

abbrev pub invariant-loop-change : goal.invariant-loop-change
invariant-loop-change l = AreForgotten l.fn.self l.self l.changes l.change-index

abbrev pub invariant-loop-change-2 : goal.invariant-loop-change-2
invariant-loop-change-2 l = AreReserved l.initial.self l.self l.changes l.change-index
