-- Which edges the ray from a point crosses, by where their ends lie.
use Rattle.std.proofs.Common.{◌≡◌, ℤ, pos, ◌-ℤ◌, ◌<ℤ◌, ◌≤ℤ◌, int_lt, int_le, Bool, true, false, ◌&&◌, cond, arith, refl, sym, ◌∙◌}
use Rattle.std.proofs.lemmas.Int.{ints, by_lt_z}
use Rattle.std.proofs.Math.IntN.{*ℤ_comm}
use Rattle.poly_shapes.specs.declared.segment.Segment.{Segment}
use Rattle.poly_shapes.specs.Segments.{across}
use Rattle.poly_shapes.specs.Fill.{goes_down, crosses_down, crosses_up, edge_winding}
use Rattle.whole_numbers.proofs.Products.{le-mul, lt-mul, neg_difference-mul}
use Rattle.poly_shapes.proofs.TurnedLemmas.{turned, crosses_down-turned, edge_winding-turned}

-- the tests of two numbers
pub lt-true : (a b : ℤ) → a <ℤ b → int_lt a b ≡ true
lt-true a b h = grind (arith, ints)

pub lt-false : (a b : ℤ) → b ≤ℤ a → int_lt a b ≡ false
lt-false a b h = grind (arith, ints)

pub le-true : (a b : ℤ) → a ≤ℤ b → int_le a b ≡ true
le-true a b h = grind (arith, ints)

pub le-false : (a b : ℤ) → b <ℤ a → int_le a b ≡ false
le-false a b h = grind (arith, ints)

pub and_not : (a b : Bool) → b ≡ false → a && b ≡ false
and_not true b e = e
and_not false b e = refl

pub and_not_and : (a b c : Bool) → b ≡ false → (a && b) && c ≡ false
and_not_and a b c e = rw (and_not a b e) refl

-- the ray crosses the edge neither way
pub record IsNotCrossed (e : Segment) (x y : ℤ) : Type 0 where
  pub down : crosses_down e x y ≡ false
  pub up : crosses_up e x y ≡ false

pub winding-not_crossed : (e : Segment) (x y : ℤ) → IsNotCrossed e x y → edge_winding e x y ≡ pos 0
winding-not_crossed e x y h = rw (h.down, h.up) refl

-- a ray above both ends, and one below both or level with them
pub not_crossed-above : (e : Segment) (x y : ℤ) → y <ℤ e.from.y → y <ℤ e.to.y → IsNotCrossed e x y
not_crossed-above e x y p q = record {
  down = rw (le-false e.from.y y p) refl;
  up = rw (le-false e.to.y y q) refl;
}

pub not_crossed-below : (e : Segment) (x y : ℤ) → e.from.y ≤ℤ y → e.to.y ≤ℤ y → IsNotCrossed e x y
not_crossed-below e x y p q = record {
  down = and_not_and (int_le e.from.y y) (int_lt y e.to.y) _ (lt-false y e.to.y q);
  up = and_not_and (int_le e.to.y y) (int_lt y e.from.y) _ (lt-false y e.from.y p);
}

-- a point to the right of both ends of an edge that goes down past it has the edge on its left
across-right : (e : Segment) (x y : ℤ) → e.from.y ≤ℤ y → y <ℤ e.to.y → e.from.x <ℤ x → e.to.x <ℤ x → across e x y ≤ℤ pos 0
across-right e x y p q from to =
    let wide = le-mul (e.to.x -ℤ e.from.x) (x -ℤ e.from.x) (y -ℤ e.from.y) (omega (arith, ints)) (omega (arith, ints)) in
    let tall = le-mul (y -ℤ e.from.y) (e.to.y -ℤ e.from.y) (x -ℤ e.from.x) (omega (arith, ints)) (omega (arith, ints)) in
    let one = *ℤ_comm (y -ℤ e.from.y) (x -ℤ e.from.x) in
    let two = *ℤ_comm (e.to.y -ℤ e.from.y) (x -ℤ e.from.x) in
    omega (arith, ints)

crosses_down-right : (e : Segment) (x y : ℤ) → e.from.x <ℤ x → e.to.x <ℤ x → crosses_down e x y ≡ false
crosses_down-right e x y from to =
    by_lt_z y e.from.y (λ h. rw (le-false e.from.y y h) refl) (λ p.
    by_lt_z y e.to.y
    (λ q. and_not (goes_down e y) _ (lt-false (pos 0) (across e x y) (across-right e x y p q from to)))
    (λ h. and_not_and (int_le e.from.y y) (int_lt y e.to.y) _ (lt-false y e.to.y h)))

-- a ray to the right from beyond both ends
pub not_crossed-right : (e : Segment) (x y : ℤ) → e.from.x <ℤ x → e.to.x <ℤ x → IsNotCrossed e x y
not_crossed-right e x y from to = record {
  down = crosses_down-right e x y from to;
  up = sym (crosses_down-turned e x y) ∙ crosses_down-right (turned e) x y to from;
}

-- a point to the left of both ends of an edge that goes down past it has the edge on its right
across-left : (e : Segment) (x y : ℤ) → e.from.y ≤ℤ y → y <ℤ e.to.y → x <ℤ e.from.x → x <ℤ e.to.x → pos 0 <ℤ across e x y
across-left e x y p q from to =
    let wide = le-mul (e.from.x -ℤ e.to.x) (e.from.x -ℤ x) (y -ℤ e.from.y) (omega (arith, ints)) (omega (arith, ints)) in
    let tall = lt-mul (y -ℤ e.from.y) (e.to.y -ℤ e.from.y) (e.from.x -ℤ x) (omega (arith, ints)) (omega (arith, ints)) in
    let one = *ℤ_comm (y -ℤ e.from.y) (e.from.x -ℤ x) in
    let two = *ℤ_comm (e.to.y -ℤ e.from.y) (e.from.x -ℤ x) in
    let turned_to = neg_difference-mul e.from.x e.to.x (y -ℤ e.from.y) in
    let turned_x = neg_difference-mul e.from.x x (e.to.y -ℤ e.from.y) in
    omega (arith, ints)

-- 1 for an end that is not below the ray
abbrev pub reached : ℤ → ℤ → ℤ
reached end y = cond (int_le end y) (pos 1) (pos 0)

reached-not : (end y : ℤ) → y <ℤ end → reached end y ≡ pos 0
reached-not end y h = rw (le-false end y h) refl

reached-yes : (end y : ℤ) → end ≤ℤ y → reached end y ≡ pos 1
reached-yes end y h = rw (le-true end y h) refl

winding-down_left : (e : Segment) (x y : ℤ) → e.from.y ≤ℤ y → y <ℤ e.to.y → x <ℤ e.from.x → x <ℤ e.to.x
    → edge_winding e x y ≡ pos 1
winding-down_left e x y p q from to =
    rw (le-true e.from.y y p, lt-true y e.to.y q, lt-true (pos 0) (across e x y) (across-left e x y p q from to)) refl

-- to the left of both ends the winding is told by which of them the ray reaches
pub winding-left : (e : Segment) (x y : ℤ) → x <ℤ e.from.x → x <ℤ e.to.x
    → edge_winding e x y ≡ reached e.from.y y -ℤ reached e.to.y y
winding-left e x y from to =
    by_lt_z y e.from.y
    (λ over_from. by_lt_z y e.to.y
    (λ over_to. winding-not_crossed e x y (not_crossed-above e x y over_from over_to)
    ∙ rw (reached-not e.from.y y over_from, reached-not e.to.y y over_to) refl)
    (λ at_to. edge_winding-turned (turned e) x y
    ∙ rw (winding-down_left (turned e) x y at_to over_from to from, reached-not e.from.y y over_from, reached-yes e.to.y y at_to) refl))
    (λ at_from. by_lt_z y e.to.y
    (λ over_to. winding-down_left e x y at_from over_to from to
    ∙ rw (reached-yes e.from.y y at_from, reached-not e.to.y y over_to) refl)
    (λ at_to. winding-not_crossed e x y (not_crossed-below e x y at_from at_to)
    ∙ rw (reached-yes e.from.y y at_from, reached-yes e.to.y y at_to) refl))
