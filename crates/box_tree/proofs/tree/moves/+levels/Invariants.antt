-- A node has at most 255 ancestors, and a child has one more than its parent. The levels so far or those of the children
-- that are left are those of all below the node.
use Rattle.std.proofs.Common.{◌≡◌, ◌-◌, max}
use Rattle.box_tree.specs.Forest.{height_of}
use Rattle.box_tree.proofs.PlacedLemmas.{trees_from}
use Rattle.box_tree.specs.Contents.{below_of, ancestor_count}
use Rattle.box_tree.proofs.tree.moves.+levels.Given as goal

abbrev pub decreases-levels : goal.decreases-levels
decreases-levels l = 256 - ancestor_count l.tree.now.contents l.id

abbrev pub invariant-loop-child : goal.invariant-loop-child
invariant-loop-child l =
    max l.below (height_of (trees_from l.child-index (below_of l.tree.contents l.id)))
    ≡ height_of (below_of l.tree.contents l.id)
