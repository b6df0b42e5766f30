-- The viewport of an svg is its padding box.
use Rattle.std.proofs.Common.{◌≡◌, if◌then◌else◌, sym, ap, subst, ◌∙◌}
use Rattle.view_boxes.specs.declared.port.Port.{Port}
use Rattle.view_boxes.specs.Views.{IsViewMap}
use Rattle.box_tree.specs.declared.piece.Piece.{Piece}
use Rattle.box_tree.specs.Suits.{is_svg_content}
use Rattle.box_tree.specs.Kept.{label_of}
use Rattle.box_tree.specs.Contents.{IsSide}
use Rattle.spaces.specs.Spaces.{left_border, right_border, top_border, bottom_border, first_box, padding_side, port_of, viewport_width, viewport_height}
use Rattle.spaces.proofs.WidthLemmas.{side-at, side-fits}
use Rattle.spaces.proofs.ViewLemmas.{padding-read, read}
use Rattle.spaces.proofs.views.svg_view.Goals as goal

pub padding_side-w-requires-clause-first : goal.padding_side-w-requires-clause-first
padding_side-w-requires-clause-first c = side-fits c.left_border.result (left_border (label_of c.args.node.now)) c.left_border.ensures (side-at c.args.node.now.style.border 3 c.requires.numbers.border)

pub padding_side-w-requires-clause-last : goal.padding_side-w-requires-clause-last
padding_side-w-requires-clause-last c = side-fits c.right_border.result (right_border (label_of c.args.node.now)) c.right_border.ensures (side-at c.args.node.now.style.border 1 c.requires.numbers.border)

pub padding_side-h-requires-clause-first : goal.padding_side-h-requires-clause-first
padding_side-h-requires-clause-first c = side-fits c.top_border.result (top_border (label_of c.args.node.now)) c.top_border.ensures (side-at c.args.node.now.style.border 0 c.requires.numbers.border)

pub padding_side-h-requires-clause-last : goal.padding_side-h-requires-clause-last
padding_side-h-requires-clause-last c = side-fits c.bottom_border.result (bottom_border (label_of c.args.node.now)) c.bottom_border.ensures (side-at c.args.node.now.style.border 2 c.requires.numbers.border)

pub returns : goal.returns
returns c =
    let n = label_of c.args.node.now in
    let borders = c.args.node.now.style.border in
    let sides = c.requires.numbers.border in
    let box = first_box c.args.node.now.boxes in
    let range = c.first_box-piece.ensures.range in
    let first = c.first_box-piece.ensures.first in
    let width : viewport_width n ≡ padding_side box.w (left_border n) (right_border n) =
    ap (λ k. if is_svg_content k then (port_of n).w else padding_side box.w (left_border n) (right_border n)) c.requires.kind
    in
    let height : viewport_height n ≡ padding_side box.h (top_border n) (bottom_border n) =
    ap (λ k. if is_svg_content k then (port_of n).h else padding_side box.h (top_border n) (bottom_border n)) c.requires.kind
    in
    let w_is : read c.padding_side-w.result ≡ viewport_width n =
    padding-read c.padding_side-w.result c.first_box-piece.result.w c.left_border.result c.right_border.result box.w (left_border n) (right_border n)
    (ap (λ (b : Piece). b.w) first) c.left_border.ensures c.right_border.ensures (subst (λ (b : Piece). IsSide 26 b.w) first range.across.length)
    (side-at borders 3 sides) (side-at borders 1 sides) c.padding_side-w.ensures.value c.padding_side-w.ensures.range
    ∙ sym width
    in
    let h_is : read c.padding_side-h.result ≡ viewport_height n =
    padding-read c.padding_side-h.result c.first_box-piece.result.h c.top_border.result c.bottom_border.result box.h (top_border n) (bottom_border n)
    (ap (λ (b : Piece). b.h) first) c.top_border.ensures c.bottom_border.ensures (subst (λ (b : Piece). IsSide 26 b.h) first range.down.length)
    (side-at borders 0 sides) (side-at borders 2 sides) c.padding_side-h.ensures.value c.padding_side-h.ensures.range
    ∙ sym height
    in
    let answer = c.view_box.result in
    subst (λ (p : Port). IsViewMap (viewport_width n) (viewport_height n) p answer) c.port_of.ensures.value
    (subst (λ h. IsViewMap (viewport_width n) h c.port_of.result answer) h_is
    (subst (λ w. IsViewMap w (read c.padding_side-h.result) c.port_of.result answer) w_is c.view_box.ensures))
