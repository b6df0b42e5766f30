-- A node has at most 255 ancestors, and a child has one more than its parent. What is written so far, and then by the walk
-- from the next child on, is what the walk from the node writes.
use Rattle.std.proofs.Common.{◌-◌}
use Rattle.box_tree.specs.Contents.{ancestor_count}
use Rattle.spaces.proofs.WrittenLemmas.{IsWalked}
use Rattle.spaces.proofs.table.walk.+renew_from.Given as goal

abbrev pub decreases-renew_from : goal.decreases-renew_from
decreases-renew_from g l = 256 - ancestor_count l.page.now.contents l.id

abbrev pub invariant-loop-child : goal.invariant-loop-child
invariant-loop-child g l = IsWalked l.page.contents l.id l.child-index l.fn.change l.change
