-- A node has at most 255 ancestors, and a child has one more than its parent. What is found so far and what is gathered
-- from the children that are left is what was there and what is gathered from all children.
use Rattle.std.proofs.Common.{◌≡◌, ◌-◌, ◌++◌}
use Rattle.box_tree.specs.Contents.{ancestor_count}
use Rattle.stacking.specs.OnPage.{of_node, gathered, outlines_of}
use Rattle.stacking.proofs.PageLemmas.{gathered_from}
use Rattle.stacking.proofs.content.+push_outlines.Given as goal

abbrev pub decreases-push_outlines : goal.decreases-push_outlines
decreases-push_outlines l = 256 - ancestor_count l.page.now.contents l.id

abbrev pub invariant-loop-child : goal.invariant-loop-child
invariant-loop-child l = l.items.items ++ of_node (gathered_from outlines_of l.child-index) l.page.contents l.id ≡ l.fn.items.items ++ gathered outlines_of l.page.contents l.id
