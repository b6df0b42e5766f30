-- The walk: a child of SVG content, then what is in it, and then the other children.
use Rattle.std.proofs.Common.{refl, true, false, sym, ap, ◌∙◌, ◌++◌, arith, append_assoc, get_or, Vec, Global}
use Rattle.std.proofs.lemmas.List.{append-nil}
use Rattle.box_tree.specs.declared.item.Item.{Item}
use Rattle.box_tree.specs.Kept.{label_of}
use Rattle.stacking.specs.Painting.{drawn}
use Rattle.stacking.specs.OnPage.{gathered, outlines_of}
use Rattle.stacking.proofs.GatherLemmas.{there, deeper, not_deepest, outlines-more, gathered-all}
use Rattle.stacking.proofs.content.+push_outlines.Goals as goal
use Rattle.stacking.proofs.content.+push_outlines.Goals.{then-is_svg_content+in_ok-push_drawn+in_ok-push_outlines, else-is_svg_content}

pub loop-child-init : goal.loop-child-init
loop-child-init t c = refl

pub read-inner-requires : goal.read-inner-requires
read-inner-requires t c = there c.args.page.now.contents c.requires.valid c.args.id c.read-node.result.now c.read-node.ensures c.as_slice-child-items.result.now c.as_slice-child-items.ensures c.loop-child.child-index c.loop-child-test.true

pub push_outlines-requires : goal.push_outlines-requires
push_outlines-requires t c =
    let page = c.args.page.now.contents in
    let deep = deeper page c.requires.valid c.args.id c.read-node.result.now c.read-node.ensures c.as_slice-child-items.result.now c.as_slice-child-items.ensures c.loop-child.child-index c.loop-child-test.true in
    let few = not_deepest page c.requires.valid c.args.id c.read-node.result.now c.read-node.ensures c.as_slice-child-items.result.now c.as_slice-child-items.ensures c.loop-child.child-index c.loop-child-test.true in
    (omega (arith, deep, few), (c.requires.valid, there page c.requires.valid c.args.id c.read-node.result.now c.read-node.ensures c.as_slice-child-items.result.now c.as_slice-child-items.ensures c.loop-child.child-index c.loop-child-test.true))

pub loop-child-preserved : goal.loop-child-preserved
loop-child-preserved t c =
    let page = c.args.page.now.contents in
    let more = outlines-more page c.requires.valid c.args.id c.read-node.result.now c.read-node.ensures c.as_slice-child-items.result.now c.as_slice-child-items.ensures c.loop-child.child-index c.loop-child-test.true c.read-inner.result.now c.read-inner.ensures in
    let items_of = λ (v : Vec Item Global). v.items in
    let here = drawn (label_of c.read-inner.result.now) in
    let inside = gathered outlines_of page (get_or c.as_slice-child-items.result.now c.loop-child.child-index 0) in
    elim c.if-is_svg_content.branch [
      | then-is_svg_content+in_ok-push_drawn+in_ok-push_outlines w ↦ more true (sym w.if-is_svg_content.true ∙ c.is_svg_content.ensures) c.loop-child.items.items c.if-is_svg_content.items.items _
          (ap items_of w.items-is ∙ w.in_ok-push_outlines.ensures ∙ ap (λ xs. xs ++ inside) w.in_ok-push_drawn.ensures ∙ append_assoc c.loop-child.items.items here inside) c.loop-child.invariant
      | else-is_svg_content w ↦ more false (sym w.if-is_svg_content.false ∙ c.is_svg_content.ensures) c.loop-child.items.items c.if-is_svg_content.items.items _ (ap items_of w.items-is ∙ sym (append-nil c.loop-child.items.items)) c.loop-child.invariant
    ]

pub returns : goal.returns
returns t c = gathered-all c.args.page.now.contents c.requires.valid c.args.id c.read-node.result.now c.read-node.ensures c.as_slice-child-items.result.now c.as_slice-child-items.ensures c.loop-child.child-index outlines_of c.loop-child.items.items _ c.loop-child-test.false c.loop-child.invariant
