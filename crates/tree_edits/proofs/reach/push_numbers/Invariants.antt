-- The numbers of the front of the nodes stand behind those before.
use Rattle.std.proofs.Common.{◌≡◌, ◌++◌, take}
use Rattle.tree_edits.specs.Changes.{numbers_in}
use Rattle.tree_edits.proofs.reach.push_numbers.Given as goal

abbrev pub invariant-loop-id : goal.invariant-loop-id
invariant-loop-id g l = l.numbers.items ≡ l.fn.numbers.items ++ numbers_in l.page.items (take l.id-index l.ids)
