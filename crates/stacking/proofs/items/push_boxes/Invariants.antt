-- The items so far, and those of the boxes that are left.
use Rattle.std.proofs.Common.{◌≡◌, ◌++◌, drop}
use Rattle.stacking.specs.Painting.{box_items}
use Rattle.stacking.proofs.items.push_boxes.Given as goal

abbrev pub invariant-loop-place : goal.invariant-loop-place
invariant-loop-place l = l.items-2.items ++ box_items l.node.id l.place (drop l.place l.items) ≡ l.fn.items.items ++ box_items l.node.id 0 l.node.boxes
