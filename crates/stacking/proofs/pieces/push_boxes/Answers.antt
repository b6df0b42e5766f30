-- The pieces of the boxes that are left begin with that of the next.
use Rattle.std.proofs.Common.{ap, ◌++◌}
use Rattle.stacking.proofs.BoxLemmas.{parts_from, parts_from-more, parts_from-all}
use Rattle.stacking.proofs.pieces.push_boxes.Goals as goal

pub loop-place-init : goal.loop-place-init
loop-place-init c = ap (λ boxes. c.args.parts.now.items ++ parts_from c.args.node.now.id 0 boxes) c.as_slice-piece-items.ensures

pub loop-place-preserved : goal.loop-place-preserved
loop-place-preserved c = parts_from-more c.args.node.now.id c.as_slice-piece-items.result.now c.loop-place.place c.loop-place.parts.items c.push.new.self.items _ c.box_item.result _ c.loop-place-test.true c.box_item.ensures c.in_ok-push.ensures.items c.loop-place.invariant

pub returns : goal.returns
returns c = parts_from-all c.args.node.now.id c.as_slice-piece-items.result.now c.loop-place.place c.loop-place.parts.items _ c.loop-place-test.false c.loop-place.invariant
