-- The pieces so far, and those of the boxes that are left.
use Rattle.std.proofs.Common.{◌≡◌, ◌++◌, drop}
use Rattle.stacking.proofs.BoxLemmas.{parts_from}
use Rattle.stacking.proofs.pieces.push_boxes.Given as goal

abbrev pub invariant-loop-place : goal.invariant-loop-place
invariant-loop-place l = l.parts.items ++ parts_from l.node.id l.place (drop l.place l.piece-items) ≡ l.fn.parts.items ++ parts_from l.node.id 0 l.node.boxes
