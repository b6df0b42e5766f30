-- A node has at most 255 ancestors, and a child has one more than its parent. What is found so far and what is gathered
-- from the children that are left is what was there and what is gathered from all children.
use Rattle.std.proofs.Common.{◌≡◌, ◌-◌, ◌++◌}
use Rattle.box_tree.specs.Contents.{ancestor_count}
use Rattle.stacking.specs.OnPage.{of_node, gathered, members_of}
use Rattle.stacking.proofs.PageLemmas.{gathered_from}
use Rattle.stacking.proofs.members.+push_below.Given as goal

abbrev pub decreases-push_below : goal.decreases-push_below
decreases-push_below l = 256 - ancestor_count l.page.now.contents l.id

abbrev pub invariant-loop-child : goal.invariant-loop-child
invariant-loop-child l = l.members.items ++ of_node (gathered_from members_of l.child-index) l.page.contents l.id ≡ l.fn.members.items ++ gathered members_of l.page.contents l.id
