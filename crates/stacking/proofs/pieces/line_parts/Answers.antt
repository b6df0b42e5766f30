-- The pieces of the node and of its children, and then in the order of their lines.
use Rattle.std.proofs.Common.{◌≡◌, ap, ◌++◌, ◌∙◌, sym, true, false, map, Vec, Global, rules}
use Rattle.std.proofs.lemmas.List.Sorted.{answers_always}
use Rattle.stacking.specs.declared.pieces.LinePart.{LinePart}
use Rattle.box_tree.specs.Kept.{label_of}
use Rattle.stacking.specs.Painting.{pieces, own_pieces}
use Rattle.stacking.specs.OnPage.{of_node, gathered, line_parts, part_of}
use Rattle.stacking.proofs.PageLemmas.{few_boxes}
use Rattle.stacking.proofs.OrderLemmas.{sorted-parts}
use Rattle.stacking.proofs.SeenLemmas.{pieces-seen, line_pieces-sorted}
use Rattle.stacking.proofs.pieces.line_parts.Goals as goal
use Rattle.stacking.proofs.pieces.line_parts.Goals.{then-is_inline+in_ok-push_boxes, else-is_inline}

pub push_boxes-requires : goal.push_boxes-requires
push_boxes-requires c = few_boxes c.args.page.now.contents c.requires.valid _ c.read-node.result.now c.read-node.ensures

pub returns : goal.returns
returns c =
    let page = c.args.page.now.contents in
    let keys = answers_always _ _ _ (λ f a r g h. search rules) in
    let items_of = λ (v : Vec LinePart Global). v.items in
    let own = map part_of (own_pieces (label_of c.read-node.result.now)) in
    let told = pieces-seen page c.requires.valid c.args.id c.read-node.result.now c.read-node.ensures in
    let joined : c.push_below.new.parts.items ≡ map part_of (of_node pieces page c.args.id) = elim c.if-is_inline.branch [
      | then-is_inline+in_ok-push_boxes w ↦
          c.in_ok-push_below.ensures
          ∙ ap (λ xs. xs ++ gathered line_parts page c.args.id) (ap items_of w.parts-is ∙ w.in_ok-push_boxes.ensures ∙ ap (λ xs. xs ++ own) c.new-parts.ensures.items)
          ∙ told true _ c.parent_in.ensures (sym w.if-is_inline.true ∙ c.is_inline.ensures)
      | else-is_inline w ↦
          c.in_ok-push_below.ensures
          ∙ ap (λ xs. xs ++ gathered line_parts page c.args.id) (ap items_of w.parts-is ∙ c.new-parts.ensures.items)
          ∙ told false _ c.parent_in.ensures (sym w.if-is_inline.false ∙ c.is_inline.ensures)
    ] in
    sorted-parts _ _ (of_node pieces page c.args.id) joined (c.in_ok-sort_by_key.ensures.sorted (λ (p : LinePart). p.line) keys) (c.sort_by_key.ensures.stable (λ (p : LinePart). p.line) keys)
    ∙ ap (map part_of) (line_pieces-sorted page c.args.id)
