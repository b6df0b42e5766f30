-- The nodes of the ids before this one are relocated.
use Rattle.std.proofs.Common.{drop}
use Rattle.box_tree.proofs.ExchangeLemmas.{RelocatesUpTo}
use Rattle.box_tree.proofs.tree.moves.relocate_all.Given as goal

abbrev pub invariant-loop-id : goal.invariant-loop-id
invariant-loop-id l = RelocatesUpTo l.fn.nodes l.nodes l.place l.id-items (drop l.id-index l.id-items)
