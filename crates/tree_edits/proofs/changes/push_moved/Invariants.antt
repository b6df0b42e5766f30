-- The changes of the front of the numbers stand behind those before.
use Rattle.std.proofs.Common.{◌≡◌, ◌++◌, map, take}
use Rattle.box_tree.specs.Numbers.{numbers_of}
use Rattle.tree_edits.specs.Changes.{moved}
use Rattle.tree_edits.proofs.changes.push_moved.Given as goal

abbrev pub invariant-loop-number : goal.invariant-loop-number
invariant-loop-number g l =
    l.changes.items ≡ l.fn.changes.items ++ map (moved l.bounds l.page.contents l.page.items) (take l.number-index (numbers_of l.page.items l.id))
