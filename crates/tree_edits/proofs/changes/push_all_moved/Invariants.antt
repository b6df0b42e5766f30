-- The changes of the items of the front of the nodes stand behind those before.
use Rattle.std.proofs.Common.{◌≡◌, ◌++◌, map, take}
use Rattle.tree_edits.specs.Changes.{numbers_in, moved}
use Rattle.tree_edits.proofs.changes.push_all_moved.Given as goal

abbrev pub invariant-loop-id : goal.invariant-loop-id
invariant-loop-id g l =
    l.changes.items ≡ l.fn.changes.items ++ map (moved l.bounds l.page.contents l.page.items) (numbers_in l.page.items (take l.id-index l.ids))
