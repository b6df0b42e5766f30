-- A node has at most 255 ancestors, and a child has one more than its parent. The ids so far and those of the children
-- that are left are those of the node and all below it.
use Rattle.std.proofs.Common.{◌≡◌, ◌-◌, ◌++◌}
use Rattle.box_tree.specs.Contents.{tree_of, below_of, ancestor_count}
use Rattle.box_tree.specs.Forest.{ids_in}
use Rattle.box_tree.proofs.PlacedLemmas.{trees_from}
use Rattle.tree_edits.proofs.reach.+push_ids.Given as goal

abbrev pub decreases-push_ids : goal.decreases-push_ids
decreases-push_ids g l = 256 - ancestor_count l.page.now.contents l.id

abbrev pub invariant-loop-child : goal.invariant-loop-child
invariant-loop-child g l =
    l.ids.items ++ ids_in (trees_from l.child-index (below_of l.page.contents l.id))
    ≡ l.fn.ids.items ++ ids_in (tree_of l.page.contents l.id)
