-- Empty lists came, as many as there are more of them.
use Rattle.box_tree.proofs.FollowLemmas.{HasSameLists}
use Rattle.box_tree.proofs.items.give_list.Given as goal

abbrev pub invariant-loop : goal.invariant-loop
invariant-loop l = HasSameLists l.fn.lists l.lists l.counter
