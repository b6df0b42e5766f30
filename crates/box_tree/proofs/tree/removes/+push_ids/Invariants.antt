-- A node has at most 255 ancestors, and a child has one more than its parent. The ids so far and those of the children
-- that are left are those of the node and all below it.
use Rattle.std.proofs.Common.{◌≡◌, ◌-◌, ◌++◌}
use Rattle.box_tree.specs.Contents.{tree_of}
use Rattle.box_tree.specs.Forest.{ids_in}
use Rattle.box_tree.proofs.PlacedLemmas.{trees_from}
use Rattle.box_tree.specs.Contents.{below_of, ancestor_count}
use Rattle.box_tree.proofs.tree.removes.+push_ids.Given as goal

abbrev pub decreases-push_ids : goal.decreases-push_ids
decreases-push_ids l = 256 - ancestor_count l.tree.now.contents l.id

abbrev pub invariant-loop-child : goal.invariant-loop-child
invariant-loop-child l =
    l.ids.items ++ ids_in (trees_from l.child-index (below_of l.tree.contents l.id))
    ≡ l.fn.ids.items ++ ids_in (tree_of l.tree.contents l.id)
