-- The lists that are left can be had again, and lead to what all lead to.
use Rattle.std.proofs.Common.{vec_len}
use Rattle.box_tree.proofs.FollowLemmas.{GoesBackBy}
use Rattle.box_tree.proofs.items.Items.back_all.Given as goal

abbrev pub invariant-loop-last : goal.invariant-loop-last
invariant-loop-last l = GoesBackBy l.fn.earlier.items l.fn.self.items l.earlier.items l.self.items

abbrev pub decreases-loop-last : goal.decreases-loop-last
decreases-loop-last l = vec_len l.earlier
