-- One member more is written.
use Rattle.std.proofs.Common.{◌≡◌, ◌<◌, ℕ, List, length, reverse, take, ap, ◌∙◌, arith}
use Rattle.std.proofs.lemmas.List.{length-reverse, take_more_set}
use Rattle.box_tree.proofs.ContainingLemmas.{ancestors-fewer}
use Rattle.stacking.proofs.PageLemmas.{parent-there}
use Rattle.point_query.proofs.ChainLemmas.{upwards, upwards-step, walked, all_walked, chain-upwards, chain-short}
use Rattle.point_query.proofs.chains.write_upwards.Goals as goal

pub bounds-room-count : goal.bounds-room-count
bounds-room-count g c =
    let page = c.args.page.now.contents in
    let l = c.loop-above in
    omega (arith, ap length (upwards-step page c.validity.ensures l.above c.node.result.now c.node.ensures.node), l.invariant.counted, ap length (chain-upwards page c.args.id), length-reverse (upwards page c.args.id), chain-short page c.validity.ensures c.args.id)

pub loop-above-preserved : goal.loop-above-preserved
loop-above-preserved g c =
    let page = c.args.page.now.contents in
    let l = c.loop-above in
    let node = c.node.result.now in
    let within : l.count < length l.room = omega (arith, ap length (upwards-step page c.validity.ensures l.above node c.node.ensures.node), l.invariant.counted, ap length (chain-upwards page c.args.id), length-reverse (upwards page c.args.id), chain-short page c.validity.ensures c.args.id) in
    record {
      written = rw (take_more_set l.room l.count l.above within) (walked page c.validity.ensures l.above node (take l.count l.room) (upwards page c.args.id) c.node.ensures.node l.invariant.written);
      counted = omega (arith, ap length (upwards-step page c.validity.ensures l.above node c.node.ensures.node), l.invariant.counted);
      cost = omega arith;
      there = parent-there page c.validity.ensures l.above node c.node.ensures.node;
    }

pub loop-above-smaller : goal.loop-above-smaller
loop-above-smaller g c = ancestors-fewer c.args.page.now.contents c.validity.ensures c.loop-above.above c.node.result.now c.node.ensures.node

pub returns-clause-ids : goal.returns-clause-ids
returns-clause-ids g c =
    let page = c.args.page.now.contents in
    let zero : c.loop-above.above ≡ 0 = omega arith in
    ap (λ (ids : List ℕ). reverse ids) (all_walked page c.validity.ensures (take c.loop-above.count c.loop-above.room) (upwards page c.args.id) (rw zero at c.loop-above.invariant.written)) ∙ chain-upwards page c.args.id

pub returns-clause-short : goal.returns-clause-short
returns-clause-short g c =
    let page = c.args.page.now.contents in
    omega (arith, c.loop-above.invariant.counted, ap length (chain-upwards page c.args.id), length-reverse (upwards page c.args.id), chain-short page c.validity.ensures c.args.id)
