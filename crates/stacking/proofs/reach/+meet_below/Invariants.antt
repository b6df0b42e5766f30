-- A node has at most 255 ancestors, and a child has one more than its parent. What is found so far and what is gathered
-- from the children that are left is what was there and what is gathered from all children.
use Rattle.std.proofs.Common.{◌≡◌, ◌-◌, ◌++◌}
use Rattle.box_tree.specs.Contents.{ancestor_count}
use Rattle.stacking.specs.OnPage.{of_node, gathered, block_ids, float_ids}
use Rattle.stacking.proofs.PageLemmas.{gathered_from}
use Rattle.stacking.proofs.reach.+meet_below.Given as goal

abbrev pub decreases-meet_below : goal.decreases-meet_below
decreases-meet_below l = 256 - ancestor_count l.page.now.contents l.id

abbrev pub invariant-loop-child : goal.invariant-loop-child
invariant-loop-child l = record {
  blocks : l.blocks.items ++ of_node (gathered_from block_ids l.child-index) l.page.contents l.id ≡ l.fn.blocks.items ++ gathered block_ids l.page.contents l.id;
  floats : l.floats.items ++ of_node (gathered_from float_ids l.child-index) l.page.contents l.id ≡ l.fn.floats.items ++ gathered float_ids l.page.contents l.id;
}
