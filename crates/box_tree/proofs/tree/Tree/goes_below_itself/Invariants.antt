-- Each step goes up to the parent, and whether that is in the moved tree stays the same.
use Rattle.std.proofs.Common.{◌≡◌, length}
use Rattle.std.specs.Prelude.{nat_lt}
use Rattle.box_tree.specs.Contents.{tree_of}
use Rattle.box_tree.specs.Edited.{ancestors_below}
use Rattle.box_tree.specs.Forest.{occurrences}
use Rattle.box_tree.proofs.tree.Tree.goes_below_itself.Given as goal

abbrev pub invariant-loop-node : goal.invariant-loop-node
invariant-loop-node l = nat_lt 0 (occurrences (tree_of l.self.contents l.id) l.above) ≡ nat_lt 0 (occurrences (tree_of l.self.contents l.fn.id) l.fn.parent)

abbrev pub decreases-loop-node : goal.decreases-loop-node
decreases-loop-node l = length (ancestors_below l.self.contents l.above)
