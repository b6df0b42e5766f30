-- The viewport of an svg inside an svg is the one that it is given.
use Rattle.std.proofs.Common.{◌≡◌, if◌then◌else◌, sym, ap, subst, ◌∙◌}
use Rattle.view_boxes.specs.declared.port.Port.{Port}
use Rattle.view_boxes.specs.Views.{IsViewMap}
use Rattle.box_tree.specs.Suits.{is_svg_content}
use Rattle.box_tree.specs.Kept.{label_of}
use Rattle.spaces.specs.Spaces.{left_border, right_border, top_border, bottom_border, first_box, padding_side, port_of, viewport_width, viewport_height}
use Rattle.spaces.proofs.ViewLemmas.{given-read, read}
use Rattle.spaces.proofs.views.inner_view.Goals as goal

pub returns : goal.returns
returns c =
    let n = label_of c.args.node.now in
    let box = first_box c.args.node.now.boxes in
    let port = c.port_of-port.result in
    let value = c.port_of-port.ensures.value in
    let sides = c.port_of-port.ensures.range.box.sides in
    let answer = c.view_box.result in
    let width : viewport_width n ≡ (port_of n).w =
    ap (λ k. if is_svg_content k then (port_of n).w else padding_side box.w (left_border n) (right_border n)) c.requires.kind
    in
    let height : viewport_height n ≡ (port_of n).h =
    ap (λ k. if is_svg_content k then (port_of n).h else padding_side box.h (top_border n) (bottom_border n)) c.requires.kind
    in
    let w_is : read port.w ≡ viewport_width n = given-read port.w sides.width ∙ ap (λ (p : Port). p.w) value ∙ sym width in
    let h_is : read port.h ≡ viewport_height n = given-read port.h sides.height ∙ ap (λ (p : Port). p.h) value ∙ sym height in
    subst (λ (p : Port). IsViewMap (viewport_width n) (viewport_height n) p answer) value
    (subst (λ h. IsViewMap (viewport_width n) h port answer) h_is
    (subst (λ w. IsViewMap w (read port.h) port answer) w_is c.view_box.ensures))
