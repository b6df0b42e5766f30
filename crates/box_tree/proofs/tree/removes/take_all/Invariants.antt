-- The nodes of the ids before this one are taken.
use Rattle.std.proofs.Common.{drop}
use Rattle.box_tree.proofs.ExchangeLemmas.{TakesUpTo}
use Rattle.box_tree.proofs.tree.removes.take_all.Given as goal

abbrev pub invariant-loop-id : goal.invariant-loop-id
invariant-loop-id l = TakesUpTo l.fn.nodes l.nodes l.gone l.id-items (drop l.id-index l.id-items)
