-- The items of the boxes that are left begin with that of the next.
use Rattle.std.proofs.Common.{ap, ◌++◌}
use Rattle.stacking.proofs.BoxLemmas.{box_items-more, box_items-all}
use Rattle.stacking.specs.Painting.{box_items}
use Rattle.stacking.proofs.items.push_boxes.Goals as goal

pub loop-place-init : goal.loop-place-init
loop-place-init c = ap (λ boxes. c.args.items.now.items ++ box_items c.args.node.now.id 0 boxes) c.as_slice-items.ensures

pub loop-place-preserved : goal.loop-place-preserved
loop-place-preserved c = box_items-more c.args.node.now.id c.as_slice-items.result.now c.loop-place.place c.loop-place.items.items c.push.new.self.items _ c.box_item.result c.loop-place-test.true c.box_item.ensures c.in_ok-push.ensures.items c.loop-place.invariant

pub returns : goal.returns
returns c = box_items-all c.args.node.now.id c.as_slice-items.result.now c.loop-place.place c.loop-place.items.items _ c.loop-place-test.false c.loop-place.invariant
