-- The walks go down: what a list names has fewer levels below it than the node whose list it is.
use Rattle.std.proofs.Common.{sym, ap, ◌++◌, ◌∙◌, arith, true, false, append_assoc, Vec, Global}
use Rattle.std.specs.List.{flat_map}
use Rattle.box_tree.specs.declared.item.Item.{Item}
use Rattle.box_tree.specs.Forest.{Placed}
use Rattle.stacking.specs.declared.pieces.LinePart.{LinePart}
use Rattle.stacking.specs.Painting.{own, blocks, floats, lines, flat, body, head, painted_piece}
use Rattle.stacking.specs.OnPage.{of_node, part_of, line_pieces}
use Rattle.stacking.proofs.ShareLemmas.{HoldsOfPiece}
use Rattle.stacking.proofs.SeenLemmas.{ok-weaker, appended_four, flat-on, body-on, lines-seen}
use Rattle.stacking.proofs.NextLemmas.{IsFoundBelow, levels, each_block, each_float, each_piece, nth, walk-more, walk-all, there, gives, deeper, atom_of, box_of}
use Rattle.stacking.proofs.flat.+walks.Goals as goal
use Rattle.stacking.proofs.flat.+walks.Goals.{paint_parts-in-OneBox+in_ok-push-in-OneBox, paint_parts-in-Whole+in_ok-paint_flat-in-Whole}

pub paint_flat-returns : goal.paint_flat-returns
paint_flat-returns t c =
    let page = c.args.page.now.contents in
    ok-weaker c.paint_body.result _ _ (λ x known.
    known
    ∙ ap (λ xs. xs ++ of_node body page c.args.id) c.in_ok-push_head.ensures
    ∙ append_assoc c.args.items.now.items (of_node head page c.args.id) (of_node body page c.args.id)
    ∙ ap (λ xs. c.args.items.now.items ++ xs) (sym (flat-on page c.args.id))) c.paint_body.ensures

pub paint_body-returns : goal.paint_body-returns
paint_body-returns t c =
    let page = c.args.page.now.contents in
    ok-weaker c.paint_block_lines.result _ _ (λ x known.
    appended_four c.args.items.now.items (flat_map own (of_node blocks page c.args.id)) (flat_map flat (of_node floats page c.args.id)) (of_node lines page c.args.id) (flat_map lines (of_node blocks page c.args.id))
    c.push_blocks.new.items.items c.paint_floats.new.items.items c.paint_lines.new.items.items _ _
    c.in_ok-push_blocks.ensures c.in_ok-paint_floats.ensures c.in_ok-paint_lines.ensures known (body-on page c.args.id)) c.paint_block_lines.ensures

pub paint_floats-paint_flat-requires : goal.paint_floats-paint_flat-requires
paint_floats-paint_flat-requires t c =
    let page = c.args.page.now.contents in
    let next = nth (IsFoundBelow page (levels page c.args.id)) (λ (p : Placed). p.label.id) (of_node floats page c.args.id) c.args.ids.now c.loop-float.float-index (each_float page c.requires.valid c.args.id) c.requires.ids c.loop-float-test.true in
    let low = deeper page (levels page c.args.id) next.element next.holds _ (next.is 0) in
    (omega (arith, low), (c.requires.valid, there page (levels page c.args.id) next.element next.holds _ (next.is 0)))

pub paint_floats-loop-float-preserved : goal.paint_floats-loop-float-preserved
paint_floats-loop-float-preserved t c =
    let page = c.args.page.now.contents in
    let next = nth (IsFoundBelow page (levels page c.args.id)) (λ (p : Placed). p.label.id) (of_node floats page c.args.id) c.args.ids.now c.loop-float.float-index (each_float page c.requires.valid c.args.id) c.requires.ids c.loop-float-test.true in
    walk-more flat (of_node floats page c.args.id) c.loop-float.float-index next.element c.loop-float.items.items c.paint_flat.new.items.items _ next.left
    (c.in_ok-paint_flat.ensures ∙ ap (λ xs. c.loop-float.items.items ++ xs) (gives page (levels page c.args.id) next.element next.holds _ (next.is 0) flat)) c.loop-float.invariant

pub paint_floats-returns : goal.paint_floats-returns
paint_floats-returns t c = walk-all flat (λ (p : Placed). p.label.id) (of_node floats c.args.page.now.contents c.args.id) c.args.ids.now c.loop-float.float-index c.loop-float.items.items _ c.requires.ids c.loop-float-test.false c.loop-float.invariant

pub paint_block_lines-paint_lines-requires : goal.paint_block_lines-paint_lines-requires
paint_block_lines-paint_lines-requires t c =
    let page = c.args.page.now.contents in
    let next = nth (IsFoundBelow page (levels page c.args.id)) (λ (p : Placed). p.label.id) (of_node blocks page c.args.id) c.args.ids.now c.loop-block.block-index (each_block page c.requires.valid c.args.id) c.requires.ids c.loop-block-test.true in
    let low = deeper page (levels page c.args.id) next.element next.holds _ (next.is 0) in
    (omega (arith, low), (c.requires.valid, there page (levels page c.args.id) next.element next.holds _ (next.is 0)))

pub paint_block_lines-loop-block-preserved : goal.paint_block_lines-loop-block-preserved
paint_block_lines-loop-block-preserved t c =
    let page = c.args.page.now.contents in
    let next = nth (IsFoundBelow page (levels page c.args.id)) (λ (p : Placed). p.label.id) (of_node blocks page c.args.id) c.args.ids.now c.loop-block.block-index (each_block page c.requires.valid c.args.id) c.requires.ids c.loop-block-test.true in
    walk-more lines (of_node blocks page c.args.id) c.loop-block.block-index next.element c.loop-block.items.items c.paint_lines.new.items.items _ next.left
    (c.in_ok-paint_lines.ensures ∙ ap (λ xs. c.loop-block.items.items ++ xs) (gives page (levels page c.args.id) next.element next.holds _ (next.is 0) lines)) c.loop-block.invariant

pub paint_block_lines-returns : goal.paint_block_lines-returns
paint_block_lines-returns t c = walk-all lines (λ (p : Placed). p.label.id) (of_node blocks c.args.page.now.contents c.args.id) c.args.ids.now c.loop-block.block-index c.loop-block.items.items _ c.requires.ids c.loop-block-test.false c.loop-block.invariant

pub paint_lines-returns : goal.paint_lines-returns
paint_lines-returns t c =
    ok-weaker c.paint_parts.result _ _ (λ x known. known ∙ ap (λ xs. c.args.items.now.items ++ xs) (lines-seen c.args.page.now.contents c.requires.valid c.args.id c.read-node.result.now c.read-node.ensures false (sym c.if-is_replaced.false ∙ c.is_replaced.ensures))) c.paint_parts.ensures

pub paint_lines-returns-then-is_replaced : goal.paint_lines-returns-then-is_replaced
paint_lines-returns-then-is_replaced t c =
    ok-weaker c.push_content.result _ _ (λ x known. known ∙ ap (λ xs. c.args.items.now.items ++ xs) (lines-seen c.args.page.now.contents c.requires.valid c.args.id c.read-node.result.now c.read-node.ensures true (sym c.if-is_replaced.true ∙ c.is_replaced.ensures))) c.push_content.ensures

pub paint_parts-paint_flat-requires : goal.paint_parts-paint_flat-requires
paint_parts-paint_flat-requires t c =
    let page = c.args.page.now.contents in
    let next = nth (HoldsOfPiece (IsFoundBelow page (levels page c.args.id))) part_of (of_node line_pieces page c.args.id) c.args.parts.now c.loop-part.part-index (each_piece page c.requires.valid c.args.id) c.requires.parts c.loop-part-test.true in
    let atom = atom_of page (levels page c.args.id) next.element c.in-Whole.node next.holds (ap (λ (p : LinePart). p.what) (sym (next.is _)) ∙ c.in-Whole.is) in
    let low = deeper page (levels page c.args.id) atom.place atom.holds c.in-Whole.node atom.id_is in
    (omega (arith, low), (c.requires.valid, there page (levels page c.args.id) atom.place atom.holds c.in-Whole.node atom.id_is))

pub paint_parts-loop-part-preserved : goal.paint_parts-loop-part-preserved
paint_parts-loop-part-preserved t c =
    let page = c.args.page.now.contents in
    let next = nth (HoldsOfPiece (IsFoundBelow page (levels page c.args.id))) part_of (of_node line_pieces page c.args.id) c.args.parts.now c.loop-part.part-index (each_piece page c.requires.valid c.args.id) c.requires.parts c.loop-part-test.true in
    let more = walk-more (painted_piece flat) (of_node line_pieces page c.args.id) c.loop-part.part-index next.element c.loop-part.items.items c.match-part.items.items in
    let items_of = λ (v : Vec Item Global). v.items in
    elim c.match-part.branch [
      | paint_parts-in-OneBox+in_ok-push-in-OneBox w ↦
          more _ next.left
          (ap items_of w.items-is ∙ w.in_ok-push-in-OneBox.ensures.items ∙ ap (λ xs. c.loop-part.items.items ++ xs) (sym (box_of next.element w.in-OneBox.item (ap (λ (p : LinePart). p.what) (sym (next.is _)) ∙ w.in-OneBox.is)))) c.loop-part.invariant
      | paint_parts-in-Whole+in_ok-paint_flat-in-Whole w ↦
          let atom = atom_of page (levels page c.args.id) next.element w.in-Whole.node next.holds (ap (λ (p : LinePart). p.what) (sym (next.is _)) ∙ w.in-Whole.is) in
          more _ next.left
          (ap items_of w.items-is ∙ w.in_ok-paint_flat-in-Whole.ensures ∙ ap (λ xs. c.loop-part.items.items ++ xs) (gives page (levels page c.args.id) atom.place atom.holds w.in-Whole.node atom.id_is flat ∙ sym atom.painted_is)) c.loop-part.invariant
    ]

pub paint_parts-returns : goal.paint_parts-returns
paint_parts-returns t c = walk-all (painted_piece flat) part_of (of_node line_pieces c.args.page.now.contents c.args.id) c.args.parts.now c.loop-part.part-index c.loop-part.items.items _ c.requires.parts c.loop-part-test.false c.loop-part.invariant
