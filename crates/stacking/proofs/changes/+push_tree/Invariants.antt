-- A node has at most 255 ancestors, and a child has one more than its parent. The contexts so far and those in the trees of
-- the children that are left are those of the whole tree.
use Rattle.std.proofs.Common.{◌≡◌, ◌-◌, ◌++◌}
use Rattle.box_tree.specs.Contents.{tree_of, below_of, ancestor_count}
use Rattle.box_tree.specs.Forest.{ids_in}
use Rattle.box_tree.proofs.PlacedLemmas.{trees_from}
use Rattle.stacking.specs.Touched.{contexts_among}
use Rattle.stacking.proofs.changes.+push_tree.Given as goal

abbrev pub decreases-push_tree : goal.decreases-push_tree
decreases-push_tree l = 256 - ancestor_count l.page.now.contents l.id

abbrev pub invariant-loop-child : goal.invariant-loop-child
invariant-loop-child l =
    l.ids.items ++ contexts_among l.page.contents (ids_in (trees_from l.child-index (below_of l.page.contents l.id)))
    ≡ l.fn.ids.items ++ contexts_among l.page.contents (ids_in (tree_of l.page.contents l.id))
