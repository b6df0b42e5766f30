use Rattle.svg_shapes.proofs.BoxLemmas.{NoneHolds}
use Rattle.svg_shapes.proofs.boxes.any_holds.Given as goal

abbrev pub invariant-loop-fine_box : goal.invariant-loop-fine_box
invariant-loop-fine_box l = NoneHolds l.x l.y l.boxes l.fine_box-index
