-- A point that a curve holds lies between its edges, so it is near enough to be counted from the corner.
use Rattle.std.proofs.Common.{◌≡◌, ◌≤◌, ◌^◌, ℤ, Bool, true, None, unsigned_abs, if◌then◌else◌, sym, ap, ◌∙◌, arith}
use Rattle.std.proofs.lemmas.Int.{ints}
use mir.Syntax.{w128}
use mir.Val.{to_z, of_z}
use Rattle.corner_shapes.specs.declared.rounded.Rounded.{Rounded}
use Rattle.corner_shapes.specs.Curve.{InRounded, IsMeasured}
use Rattle.corner_shapes.specs.Held.{in_rounded}
use Rattle.box_tree.specs.Covers.{first_cover}
use Rattle.box_tree.specs.Kept.{label_of}
use Rattle.spaces.specs.Spaces.{left_border, top_border}
use Rattle.spaces.proofs.WidthLemmas.{side-at, side-fits}
use Rattle.scroll_clip.specs.Curves.{padding_curve}
use Rattle.point_query.specs.ImageMaps.{past_border}
use Rattle.point_query.proofs.areas.area_in.Goals as goal

near-across : (curve : Rounded) (x y : ℤ) → IsMeasured curve → InRounded curve x y → unsigned_abs x ≤ 2 ^ 34
near-across curve x y is held = omega (arith, ints, is.left, is.right, held.between.left, held.between.right)

near-down : (curve : Rounded) (x y : ℤ) → IsMeasured curve → InRounded curve x y → unsigned_abs y ≤ 2 ^ 34
near-down curve x y is held = omega (arith, ints, is.top, is.bottom, held.between.top, held.between.bottom)

pub past_border-x-requires-clause-border : goal.past_border-x-requires-clause-border
past_border-x-requires-clause-border g c = side-fits c.left_border.result (left_border (label_of c.args.node.now)) c.left_border.ensures (side-at c.args.node.now.style.border 3 c.requires.node.border)

pub past_border-x-requires-clause-at : goal.past_border-x-requires-clause-at
past_border-x-requires-clause-at g c =
    let near = near-across c.padding_curve.result _ _ c.padding_curve.ensures.measured (c.holds.ensures.held.0 c.if-not-holds.false) in
    omega (arith, ints, near)

pub past_border-y-requires-clause-border : goal.past_border-y-requires-clause-border
past_border-y-requires-clause-border g c = side-fits c.top_border.result (top_border (label_of c.args.node.now)) c.top_border.ensures (side-at c.args.node.now.style.border 0 c.requires.node.border)

pub past_border-y-requires-clause-at : goal.past_border-y-requires-clause-at
past_border-y-requires-clause-at g c =
    let near = near-down c.padding_curve.result _ _ c.padding_curve.ensures.measured (c.holds.ensures.held.0 c.if-not-holds.false) in
    omega (arith, ints, near)

pub returns-clause-area : goal.returns-clause-area
returns-clause-area g c =
    let n = label_of c.args.node.now in
    let box = c.args.piece.now in
    let at = c.args.at in
    let at_x : to_z w128 (of_z w128 at.x) ≡ at.x = omega (arith, ints) in
    let at_y : to_z w128 (of_z w128 at.y) ≡ at.y = omega (arith, ints) in
    let test = rw (at_x, at_y) at c.holds.ensures.test in
    let held = c.holds.ensures.held.0 c.if-not-holds.false in
    let across = near-across c.padding_curve.result _ _ c.padding_curve.ensures.measured held in
    let down = near-down c.padding_curve.result _ _ c.padding_curve.ensures.measured held in
    let left = side-at c.args.node.now.style.border 3 c.requires.node.border in
    let top = side-at c.args.node.now.style.border 0 c.requires.node.border in
    let x_is : to_z w128 (of_z w128 c.past_border-x.result) ≡ past_border box.l (left_border n) at.x =
    omega (arith, ints, c.past_border-x.ensures.place, c.left_border.ensures, c.requires.piece.across.start.0, c.requires.piece.across.start.1, left.0, left.1, across) in
    let y_is : to_z w128 (of_z w128 c.past_border-y.result) ≡ past_border box.t (top_border n) at.y =
    omega (arith, ints, c.past_border-y.ensures.place, c.top_border.ensures, c.requires.piece.down.start.0, c.requires.piece.down.start.1, top.0, top.1, down) in
    let shown : in_rounded (padding_curve n box) at.x at.y ≡ true =
    sym (ap (λ (k : Rounded). in_rounded k at.x at.y) c.padding_curve.ensures.curve) ∙ sym test ∙ c.if-not-holds.false in
    rw (x_is, y_is) at c.first_cover.ensures.first
    ∙ ap (λ (b : Bool). if b then first_cover c.args.page.now.contents c.args.map (past_border box.l (left_border n) at.x) (past_border box.t (top_border n) at.y) else None) (sym shown)
