-- The list is filled up to this place.
use Rattle.box_tree.proofs.NumberLemmas.{FillsUpTo}
use Rattle.box_tree.proofs.items.fill.Given as goal

abbrev pub invariant-loop-place : goal.invariant-loop-place
invariant-loop-place l = FillsUpTo l.id l.kind l.fn.list l.fn.given l.fn.free l.list l.given l.free l.place l.count
