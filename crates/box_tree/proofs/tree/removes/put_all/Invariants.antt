-- The nodes that are not on the list any more are put.
use Rattle.std.proofs.Common.{vec_len}
use Rattle.box_tree.proofs.ExchangeLemmas.{PutsUpTo}
use Rattle.box_tree.proofs.tree.removes.put_all.Given as goal

abbrev pub invariant-loop-node : goal.invariant-loop-node
invariant-loop-node l = PutsUpTo l.fn.nodes l.nodes l.fn.gone.items l.gone.items

abbrev pub decreases-loop-node : goal.decreases-loop-node
decreases-loop-node l = vec_len l.gone
