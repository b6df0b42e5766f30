-- The lists of the ids before this one are taken.
use Rattle.std.proofs.Common.{drop}
use Rattle.box_tree.proofs.FollowLemmas.{TakesListsUpTo}
use Rattle.box_tree.proofs.items.Items.take_all.Given as goal

abbrev pub invariant-loop-id : goal.invariant-loop-id
invariant-loop-id l = TakesListsUpTo l.fn.self.items l.self.items l.earlier l.id-items (drop l.id-index l.id-items)
