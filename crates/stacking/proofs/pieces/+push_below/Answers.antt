-- The walk: what a child gives by its role, and then the other children.
use Rattle.std.proofs.Common.{refl, sym, ap, ◌∙◌, ◌++◌, arith, Vec, Global, append_assoc}
use Rattle.std.proofs.lemmas.List.{append-nil}
use Rattle.stacking.specs.declared.pieces.LinePart.{LinePart}
use Rattle.stacking.specs.declared.pieces.LineRole.TheVariants as role
use Rattle.stacking.specs.OnPage.{line_parts, gathered}
use Rattle.stacking.proofs.GatherLemmas.{there, deeper, not_deepest, parts-more, gathered-all}
use Rattle.stacking.proofs.PageLemmas.{few_boxes}
use Rattle.stacking.proofs.pieces.+push_below.Goals as goal
use Rattle.stacking.proofs.pieces.+push_below.Goals.{in-Boxes+in_ok-push_boxes-in-Boxes, in-BoxesAndBelow+in_ok-push_boxes-in-BoxesAndBelow+in_ok-push_below-in-BoxesAndBelow, in-Whole+in_ok-push_whole-in-Whole, in-Nothing}

pub loop-child-init : goal.loop-child-init
loop-child-init t c = refl

pub read-inner-requires : goal.read-inner-requires
read-inner-requires t c = there c.args.page.now.contents c.requires.valid c.args.id c.read-node.result.now c.read-node.ensures c.as_slice-child-items.result.now c.as_slice-child-items.ensures c.loop-child.child-index c.loop-child-test.true

pub push_boxes-requires : goal.push_boxes-requires
push_boxes-requires t c = few_boxes c.args.page.now.contents c.requires.valid _ c.read-inner.result.now c.read-inner.ensures

pub push_boxes-requires-in-BoxesAndBelow : goal.push_boxes-requires-in-BoxesAndBelow
push_boxes-requires-in-BoxesAndBelow t c = few_boxes c.args.page.now.contents c.requires.valid _ c.read-inner.result.now c.read-inner.ensures

pub push_below-requires : goal.push_below-requires
push_below-requires t c =
    let page = c.args.page.now.contents in
    let deep = deeper page c.requires.valid c.args.id c.read-node.result.now c.read-node.ensures c.as_slice-child-items.result.now c.as_slice-child-items.ensures c.loop-child.child-index c.loop-child-test.true in
    let few = not_deepest page c.requires.valid c.args.id c.read-node.result.now c.read-node.ensures c.as_slice-child-items.result.now c.as_slice-child-items.ensures c.loop-child.child-index c.loop-child-test.true in
    (omega (arith, deep, few), (c.requires.valid, there page c.requires.valid c.args.id c.read-node.result.now c.read-node.ensures c.as_slice-child-items.result.now c.as_slice-child-items.ensures c.loop-child.child-index c.loop-child-test.true))

pub loop-child-preserved : goal.loop-child-preserved
loop-child-preserved t c =
    let page = c.args.page.now.contents in
    let more = parts-more page c.requires.valid c.args.id c.read-node.result.now c.read-node.ensures c.as_slice-child-items.result.now c.as_slice-child-items.ensures c.loop-child.child-index c.loop-child-test.true c.read-inner.result.now c.read-inner.ensures in
    let items_of = λ (v : Vec LinePart Global). v.items in
    elim c.match-line_role.branch [
      | in-Boxes+in_ok-push_boxes-in-Boxes w ↦ more role.Boxes (sym w.in-Boxes.is ∙ c.line_role.ensures) c.loop-child.parts.items c.match-line_role.parts.items _ (ap items_of w.parts-is ∙ w.in_ok-push_boxes-in-Boxes.ensures) c.loop-child.invariant
      | in-BoxesAndBelow+in_ok-push_boxes-in-BoxesAndBelow+in_ok-push_below-in-BoxesAndBelow w ↦ more role.BoxesAndBelow (sym w.in-BoxesAndBelow.is ∙ c.line_role.ensures) c.loop-child.parts.items c.match-line_role.parts.items _
          (ap items_of w.parts-is ∙ w.in_ok-push_below-in-BoxesAndBelow.ensures ∙ ap (λ xs. xs ++ gathered line_parts page _) w.in_ok-push_boxes-in-BoxesAndBelow.ensures ∙ append_assoc c.loop-child.parts.items _ _) c.loop-child.invariant
      | in-Whole+in_ok-push_whole-in-Whole w ↦ more role.Whole (sym w.in-Whole.is ∙ c.line_role.ensures) c.loop-child.parts.items c.match-line_role.parts.items _ (ap items_of w.parts-is ∙ w.in_ok-push_whole-in-Whole.ensures) c.loop-child.invariant
      | in-Nothing w ↦ more role.Nothing (sym w.in-Nothing.is ∙ c.line_role.ensures) c.loop-child.parts.items c.match-line_role.parts.items _ (ap items_of w.parts-is ∙ sym (append-nil c.loop-child.parts.items)) c.loop-child.invariant
    ]

pub returns : goal.returns
returns t c = gathered-all c.args.page.now.contents c.requires.valid c.args.id c.read-node.result.now c.read-node.ensures c.as_slice-child-items.result.now c.as_slice-child-items.ensures c.loop-child.child-index line_parts c.loop-child.parts.items _ c.loop-child-test.false c.loop-child.invariant
