-- The units of two edges in order are in order.
use Rattle.std.proofs.Common.{◌≡◌, ℤ, pos, ◌+ℤ◌, to_z, of_z, w64, refl, ap, ◌∙◌, arith}
use Rattle.std.proofs.lemmas.Int.{ints}
use Rattle.tree_edits.specs.Bounds.{unit_at}
use Rattle.tree_edits.proofs.BoundsLemmas.{in_order-units}
use Rattle.tree_edits.proofs.bounds.units_around.Goals as goal

abbrev read : ℤ → ℤ
read z = to_z w64 (of_z w64 z)

-- what the four calls answer
left : (c : goal.After-unit_at-4) → read c.unit_at.result ≡ unit_at c.args.bounds.now.l
left c =
    let edge : read c.args.bounds.now.l ≡ c.args.bounds.now.l = omega (arith, ints, c.requires.sides.left) in
    let small : read c.unit_at.result ≡ c.unit_at.result = omega (arith, ints, c.unit_at.ensures.size) in
    small ∙ c.unit_at.ensures.unit ∙ ap unit_at edge

top : (c : goal.After-unit_at-4) → read c.unit_at-2.result ≡ unit_at c.args.bounds.now.t
top c =
    let edge : read c.args.bounds.now.t ≡ c.args.bounds.now.t = omega (arith, ints, c.requires.sides.top) in
    let small : read c.unit_at-2.result ≡ c.unit_at-2.result = omega (arith, ints, c.unit_at-2.ensures.size) in
    small ∙ c.unit_at-2.ensures.unit ∙ ap unit_at edge

right : (c : goal.After-unit_at-4) → read (read c.unit_at-3.result +ℤ pos 1) ≡ unit_at c.args.bounds.now.r +ℤ pos 1
right c =
    let edge : read c.args.bounds.now.r ≡ c.args.bounds.now.r = omega (arith, ints, c.requires.sides.right) in
    let small : read (read c.unit_at-3.result +ℤ pos 1) ≡ c.unit_at-3.result +ℤ pos 1 = omega (arith, ints, c.unit_at-3.ensures.size) in
    small ∙ ap (λ z. z +ℤ pos 1) (c.unit_at-3.ensures.unit ∙ ap unit_at edge)

bottom : (c : goal.After-unit_at-4) → read (read c.unit_at-4.result +ℤ pos 1) ≡ unit_at c.args.bounds.now.b +ℤ pos 1
bottom c =
    let edge : read c.args.bounds.now.b ≡ c.args.bounds.now.b = omega (arith, ints, c.requires.sides.bottom) in
    let small : read (read c.unit_at-4.result +ℤ pos 1) ≡ c.unit_at-4.result +ℤ pos 1 = omega (arith, ints, c.unit_at-4.ensures.size) in
    small ∙ ap (λ z. z +ℤ pos 1) (c.unit_at-4.ensures.unit ∙ ap unit_at edge)

pub returns-clause-rect : goal.returns-clause-rect
returns-clause-rect c = rw (left c, top c, right c, bottom c) refl

pub returns-clause-across : goal.returns-clause-across
returns-clause-across c = rw (left c, right c) (in_order-units c.args.bounds.now.l c.args.bounds.now.r c.requires.across)

pub returns-clause-down : goal.returns-clause-down
returns-clause-down c = rw (top c, bottom c) (in_order-units c.args.bounds.now.t c.args.bounds.now.b c.requires.down)
