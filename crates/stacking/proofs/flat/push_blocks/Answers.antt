-- One block after another.
use Rattle.std.proofs.Common.{refl, ap, ◌++◌, ◌∙◌}
use Rattle.box_tree.specs.Forest.{Placed}
use Rattle.stacking.specs.Painting.{own, blocks}
use Rattle.stacking.specs.OnPage.{of_node}
use Rattle.stacking.proofs.NextLemmas.{IsFoundBelow, levels, each_block, nth, walk-more, walk-all, there, gives}
use Rattle.stacking.proofs.flat.push_blocks.Goals as goal

pub loop-block-init : goal.loop-block-init
loop-block-init c = refl

pub push_own-requires : goal.push_own-requires
push_own-requires c =
    let page = c.args.page.now.contents in
    let next = nth (IsFoundBelow page (levels page c.args.id)) (λ (p : Placed). p.label.id) (of_node blocks page c.args.id) c.args.ids.now c.loop-block.block-index (each_block page c.requires.valid c.args.id) c.requires.ids c.loop-block-test.true in
    record { valid = c.requires.valid; there = there page (levels page c.args.id) next.element next.holds _ (next.is 0) }

pub loop-block-preserved : goal.loop-block-preserved
loop-block-preserved c =
    let page = c.args.page.now.contents in
    let next = nth (IsFoundBelow page (levels page c.args.id)) (λ (p : Placed). p.label.id) (of_node blocks page c.args.id) c.args.ids.now c.loop-block.block-index (each_block page c.requires.valid c.args.id) c.requires.ids c.loop-block-test.true in
    walk-more own (of_node blocks page c.args.id) c.loop-block.block-index next.element c.loop-block.items.items c.push_own.new.items.items _ next.left
    (c.in_ok-push_own.ensures ∙ ap (λ xs. c.loop-block.items.items ++ xs) (gives page (levels page c.args.id) next.element next.holds _ (next.is 0) own)) c.loop-block.invariant

pub returns : goal.returns
returns c = walk-all own (λ (p : Placed). p.label.id) (of_node blocks c.args.page.now.contents c.args.id) c.args.ids.now c.loop-block.block-index c.loop-block.items.items _ c.requires.ids c.loop-block-test.false c.loop-block.invariant
