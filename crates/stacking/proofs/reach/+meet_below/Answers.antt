-- The walk: a child itself, then what is below it where it is entered, and then the other children.
use Rattle.std.proofs.Common.{refl, true, false, sym, ap, ◌∙◌, arith}
use Rattle.std.proofs.lemmas.List.{append-nil}
use Rattle.std.proofs.Common.{Vec, Global, ℕ}
use Rattle.stacking.specs.Painting.{is_block, is_float}
use Rattle.stacking.specs.OnPage.{block_ids, float_ids}
use Rattle.stacking.proofs.GatherLemmas.{there, deeper, not_deepest, met-more, gathered-all}
use Rattle.stacking.proofs.reach.+meet_below.Goals as goal
use Rattle.stacking.proofs.reach.+meet_below.Goals.{then-is_entered+in_ok-meet_below, else-is_entered}

pub loop-child-init : goal.loop-child-init
loop-child-init t c = record { blocks = refl; floats = refl }

pub read-inner-requires : goal.read-inner-requires
read-inner-requires t c = there c.args.page.now.contents c.requires.valid c.args.id c.read-node.result.now c.read-node.ensures c.as_slice-child-items.result.now c.as_slice-child-items.ensures c.loop-child.child-index c.loop-child-test.true

pub meet_below-requires : goal.meet_below-requires
meet_below-requires t c =
    let page = c.args.page.now.contents in
    let deep = deeper page c.requires.valid c.args.id c.read-node.result.now c.read-node.ensures c.as_slice-child-items.result.now c.as_slice-child-items.ensures c.loop-child.child-index c.loop-child-test.true in
    let few = not_deepest page c.requires.valid c.args.id c.read-node.result.now c.read-node.ensures c.as_slice-child-items.result.now c.as_slice-child-items.ensures c.loop-child.child-index c.loop-child-test.true in
    (omega (arith, deep, few), (c.requires.valid, there page c.requires.valid c.args.id c.read-node.result.now c.read-node.ensures c.as_slice-child-items.result.now c.as_slice-child-items.ensures c.loop-child.child-index c.loop-child-test.true))

pub loop-child-preserved : goal.loop-child-preserved
loop-child-preserved t c =
    let page = c.args.page.now.contents in
    let more = met-more page c.requires.valid c.args.id c.read-node.result.now c.read-node.ensures c.as_slice-child-items.result.now c.as_slice-child-items.ensures c.loop-child.child-index c.loop-child-test.true c.read-inner.result.now c.read-inner.ensures in
    elim c.if-is_entered.branch [
      | then-is_entered+in_ok-meet_below w ↦ record {
        blocks = more is_block c.is_block.result true c.is_block.ensures (sym w.if-is_entered.true ∙ c.is_entered.ensures) c.loop-child.blocks.items c.push_if.new.ids.items c.if-is_entered.blocks.items _ c.in_ok-push_if.ensures (ap (λ (v : Vec ℕ Global). v.items) w.blocks-is ∙ w.in_ok-meet_below.ensures.blocks) c.loop-child.invariant.blocks;
        floats = more is_float c.is_float.result true c.is_float.ensures (sym w.if-is_entered.true ∙ c.is_entered.ensures) c.loop-child.floats.items c.push_if-in-loop-child.new.ids.items c.if-is_entered.floats.items _ c.in_ok-push_if-2.ensures (ap (λ (v : Vec ℕ Global). v.items) w.floats-is ∙ w.in_ok-meet_below.ensures.floats) c.loop-child.invariant.floats;
      }
      | else-is_entered w ↦ record {
        blocks = more is_block c.is_block.result false c.is_block.ensures (sym w.if-is_entered.false ∙ c.is_entered.ensures) c.loop-child.blocks.items c.push_if.new.ids.items c.if-is_entered.blocks.items _ c.in_ok-push_if.ensures (ap (λ (v : Vec ℕ Global). v.items) w.blocks-is ∙ sym (append-nil c.push_if.new.ids.items)) c.loop-child.invariant.blocks;
        floats = more is_float c.is_float.result false c.is_float.ensures (sym w.if-is_entered.false ∙ c.is_entered.ensures) c.loop-child.floats.items c.push_if-in-loop-child.new.ids.items c.if-is_entered.floats.items _ c.in_ok-push_if-2.ensures (ap (λ (v : Vec ℕ Global). v.items) w.floats-is ∙ sym (append-nil c.push_if-in-loop-child.new.ids.items)) c.loop-child.invariant.floats;
      }
    ]

pub returns : goal.returns
returns t c =
    let all = gathered-all c.args.page.now.contents c.requires.valid c.args.id c.read-node.result.now c.read-node.ensures c.as_slice-child-items.result.now c.as_slice-child-items.ensures c.loop-child.child-index in
    record {
      blocks = all block_ids c.loop-child.blocks.items _ c.loop-child-test.false c.loop-child.invariant.blocks;
      floats = all float_ids c.loop-child.floats.items _ c.loop-child-test.false c.loop-child.invariant.floats;
    }
