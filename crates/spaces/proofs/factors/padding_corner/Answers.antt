-- The corner is that of the first box, and the widths of the borders are sides.
use Rattle.std.proofs.Common.{◌≡◌, ◌≢◌, ℤ, pos, ◌+ℤ◌, List, [], ◌∷◌, length, ◌==◌, sym, ap, ◌∙◌}
use mir.Syntax.{w64}
use mir.Val.{to_z, of_z}
use Rattle.affine.specs.declared.map.Parts.{Parts}
use Rattle.affine.specs.Map.{translation}
use Rattle.box_tree.specs.declared.piece.Piece.{Piece}
use Rattle.box_tree.specs.Kept.{label_of}
use Rattle.spaces.specs.Spaces.{left_border, top_border, first_box}
use Rattle.spaces.proofs.WidthLemmas.{side-at, side-fits, sum-fits}
use Rattle.spaces.proofs.CornerLemmas.{some-from, corner_of-some}
use Rattle.spaces.proofs.factors.padding_corner.Goals as goal

pub past_border-x-requires-clause-width : goal.past_border-x-requires-clause-width
past_border-x-requires-clause-width c = side-fits c.left_border.result (left_border (label_of c.args.node.now)) c.left_border.ensures (side-at c.args.node.now.style.border 3 c.requires.border)

pub past_border-y-requires-clause-width : goal.past_border-y-requires-clause-width
past_border-y-requires-clause-width c = side-fits c.top_border.result (top_border (label_of c.args.node.now)) c.top_border.ensures (side-at c.args.node.now.style.border 0 c.requires.border)

pub returns : goal.returns
returns c =
    let n = label_of c.args.node.now in
    let boxes = c.args.node.now.boxes in
    let some : boxes ≢ [] = some-from boxes (ap (λ (bs : List Piece). length bs == 0) (sym c.as_slice.ensures) ∙ sym c.is_empty.ensures ∙ c.if-is_empty.false) in
    let x_is : to_z w64 (of_z w64 c.past_border-x.result) ≡ (first_box boxes).l +ℤ left_border n =
    sum-fits c.past_border-x.result c.first_box-piece.result.l (first_box boxes).l c.left_border.result (left_border n) c.past_border-x.ensures.value
    (ap (λ (b : Piece). b.l) c.first_box-piece.ensures.first) c.left_border.ensures c.first_box-piece.ensures.range.across.start (side-at c.args.node.now.style.border 3 c.requires.border) in
    let y_is : to_z w64 (of_z w64 c.past_border-y.result) ≡ (first_box boxes).t +ℤ top_border n =
    sum-fits c.past_border-y.result c.first_box-piece.result.t (first_box boxes).t c.top_border.result (top_border n) c.past_border-y.ensures.value
    (ap (λ (b : Piece). b.t) c.first_box-piece.ensures.first) c.top_border.ensures c.first_box-piece.ensures.range.down.start (side-at c.args.node.now.style.border 0 c.requires.border) in
    ap (λ (m : Parts). m ∷ []) (c.translate.ensures ∙ ap (λ (x : ℤ). translation x (to_z w64 (of_z w64 c.past_border-y.result)) (pos 1)) x_is ∙ ap (λ (y : ℤ). translation ((first_box boxes).l +ℤ left_border n) y (pos 1)) y_is)
    ∙ sym (corner_of-some n boxes some)
