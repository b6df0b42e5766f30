-- A node has at most 255 ancestors, and a child has one more than its parent. What is found so far and what is gathered
-- from the children that are left is what was there and what is gathered from all children.
use Rattle.std.proofs.Common.{◌≡◌, ◌-◌, ◌++◌}
use Rattle.box_tree.specs.Contents.{ancestor_count}
use Rattle.stacking.specs.OnPage.{of_node, gathered, line_parts}
use Rattle.stacking.proofs.PageLemmas.{gathered_from}
use Rattle.stacking.proofs.pieces.+push_below.Given as goal

abbrev pub decreases-push_below : goal.decreases-push_below
decreases-push_below l = 256 - ancestor_count l.page.now.contents l.id

abbrev pub invariant-loop-child : goal.invariant-loop-child
invariant-loop-child l = l.parts.items ++ of_node (gathered_from line_parts l.child-index) l.page.contents l.id ≡ l.fn.parts.items ++ gathered line_parts l.page.contents l.id
