-- The changes of the front of the numbers stand behind those before.
use Rattle.std.proofs.Common.{◌≡◌, ◌++◌, map, take}
use Rattle.tree_edits.specs.Changes.{taken}
use Rattle.tree_edits.proofs.changes.push_taken.Given as goal

abbrev pub invariant-loop-number : goal.invariant-loop-number
invariant-loop-number l = l.changes.items ≡ l.fn.changes.items ++ map (taken l.bounds) (take l.number-index l.gone)
