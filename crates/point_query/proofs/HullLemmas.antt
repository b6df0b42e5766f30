-- The bounds of a rectangle in a space hold each point whose local point lies in the rectangle. The exact preimage of the point
-- lies in the closed rectangle, since the edges are whole units; so its image, which is the point, lies in the hull.
use Rattle.std.proofs.Common.{ℕ, zero, suc, ◌≡◌, ℤ, pos, negsuc, ◌+ℤ◌, ◌*ℤ◌, ◌<ℤ◌, ◌≤ℤ◌, neg_ℤ, Some, arith, ap, ◌∙◌, sym, subst}
use Rattle.std.proofs.lemmas.Int.{ints, clamps}
use Rattle.std.specs.Int.{int_max, int_min}
use Rattle.whole_numbers.proofs.Products.{mul_assoc, mul-neg, le-mul, at_least_zero, le-cancel, lt-cancel, mul-positive}
use Rattle.fractions.specs.declared.rect.Rect.{Rect}
use Rattle.fractions.specs.Rect.{Holds}
use Rattle.fractions.specs.Division.{IsFloor}
use Rattle.affine.specs.declared.map.Parts.{Parts}
use Rattle.affine.specs.Point.{Point, IsSamePoint, whole_point, image, preimage, floor_of, rounded_down, local_point}
use Rattle.affine.specs.Hull.{IsInClosed, hull_of, shared_part}
use Rattle.affine.proofs.FloorLemmas.{IsFloor-floor_of}
use Rattle.affine.proofs.PointLemmas.{IsSamePoint-preimage}
use Rattle.affine.proofs.HullLemmas.{IsHull-hull_of, zeros_if_empty-some}

-- the rectangle of whole units holds a point in fine units
pub record HoldsFine (r : Rect) (x y : ℤ) : Type 0 where
  pub left : (pos 64 *ℤ r.l) ≤ℤ x
  pub right : x <ℤ (pos 64 *ℤ r.r)
  pub top : (pos 64 *ℤ r.t) ≤ℤ y
  pub bottom : y <ℤ (pos 64 *ℤ r.b)

times_one : (z : ℤ) → z *ℤ pos 1 ≡ z
times_one z = omega (arith, ints)

-- a fraction whose floor in fine units isn't before a whole unit isn't before it, and one whose floor is before a whole unit is
-- before it or at it
module _ (n w : ℤ) (positive : pos 0 <ℤ w) where
  floor-is : IsFloor (pos 64 *ℤ n) w (floor_of (pos 64 *ℤ n) w)
  floor-is = IsFloor-floor_of (pos 64 *ℤ n) w (λ zero'. absurd (omega (arith, ints, zero', positive)))

  at_left : (l : ℤ) → (pos 64 *ℤ l) ≤ℤ floor_of (pos 64 *ℤ n) w → (l *ℤ w) ≤ℤ n
  at_left l h =
      let up = le-mul (pos 64 *ℤ l) (floor_of (pos 64 *ℤ n) w) w (at_least_zero w positive) h in
      let most = floor-is.at_most positive in
      let split = mul_assoc (pos 64) l w in
      omega (arith, ints)

  at_right : (r : ℤ) → floor_of (pos 64 *ℤ n) w <ℤ (pos 64 *ℤ r) → n ≤ℤ (r *ℤ w)
  at_right r h =
      let up = le-mul (floor_of (pos 64 *ℤ n) w +ℤ pos 1) (pos 64 *ℤ r) w (at_least_zero w positive) (omega (arith, ints)) in
      let next = floor-is.next_above positive in
      let split = mul_assoc (pos 64) r w in
      omega (arith, ints)

-- a coordinate of the image of a point over a negative number, by that of the point with all three numbers negated
negated-sum : (s t z s' t' z' k k' : ℤ) → s' ≡ neg_ℤ s → t' ≡ neg_ℤ t → z ≡ neg_ℤ z' → k ≡ neg_ℤ k' → (s +ℤ t +ℤ z) *ℤ pos 1 ≡ k → (s' +ℤ t' +ℤ z') *ℤ pos 1 ≡ k'
negated-sum s t z s' t' z' k k' p q r e h = omega (arith, ints)

negated-row : (a c e q px py : ℤ) (d : ℕ) (x : ℤ) → (a *ℤ px +ℤ c *ℤ py +ℤ e *ℤ negsuc d) *ℤ pos 1 ≡ x *ℤ (q *ℤ negsuc d) →
    (a *ℤ neg_ℤ px +ℤ c *ℤ neg_ℤ py +ℤ e *ℤ pos (suc d)) *ℤ pos 1 ≡ x *ℤ (q *ℤ pos (suc d))
negated-row a c e q px py d x h =
    negated-sum (a *ℤ px) (c *ℤ py) (e *ℤ negsuc d) (a *ℤ neg_ℤ px) (c *ℤ neg_ℤ py) (e *ℤ pos (suc d)) (x *ℤ (q *ℤ negsuc d)) (x *ℤ (q *ℤ pos (suc d)))
    (mul-neg a px) (mul-neg c py) (mul-neg e (pos (suc d)))
    (ap (λ k. x *ℤ k) (mul-neg q (pos (suc d))) ∙ mul-neg x (q *ℤ pos (suc d))) h

module _ (m : Parts) (r : Rect) (x y : ℤ) (denominator : pos 0 <ℤ m.q) where
  -- a point over a positive number that the map takes to (x, y)
  holds-over_positive : (p : Point) → pos 0 <ℤ p.w → IsSamePoint (image m p) (whole_point x y) →
      HoldsFine r (floor_of (pos 64 *ℤ p.x) p.w) (floor_of (pos 64 *ℤ p.y) p.w) → Holds (hull_of m r) x y
  holds-over_positive p positive same held =
      let w = m.q *ℤ p.w in
      let some : pos 0 <ℤ w = mul-positive m.q p.w denominator positive in
      let inside : IsInClosed r p = record {
        positive = positive;
        from_left = at_left p.x p.w positive r.l held.left;
        to_right = at_right p.x p.w positive r.r held.right;
        from_top = at_left p.y p.w positive r.t held.top;
        to_bottom = at_right p.y p.w positive r.b held.bottom;
      } in
      let across : r.l ≤ℤ r.r = le-cancel r.l r.r p.w positive (omega (arith, ints, inside.from_left, inside.to_right)) in
      let down : r.t ≤ℤ r.b = le-cancel r.t r.b p.w positive (omega (arith, ints, inside.from_top, inside.to_bottom)) in
      let at = (IsHull-hull_of m r denominator across down).holds p inside in
      let h = hull_of m r in
      let x_is : (image m p).x ≡ x *ℤ w = sym (times_one (image m p).x) ∙ same.x in
      let y_is : (image m p).y ≡ y *ℤ w = sym (times_one (image m p).y) ∙ same.y in
      record {
        from_left = le-cancel h.l x w some (rw x_is at at.from_left);
        before_right = lt-cancel x h.r w some (rw x_is at at.before_right);
        from_top = le-cancel h.t y w some (rw y_is at at.from_top);
        before_bottom = lt-cancel y h.b w some (rw y_is at at.before_bottom);
      }

  -- and one over any number: over a negative one, it is the point with all three numbers negated
  holds-over : (px py w : ℤ) → IsSamePoint (image m (record { x = px; y = py; w = w })) (whole_point x y) → (at : ℤ × ℤ) →
      rounded_down (pos 64 *ℤ px) (pos 64 *ℤ py) w ≡ Some at → HoldsFine r at.0 at.1 → Holds (hull_of m r) x y
  holds-over px py (pos zero) same at is held = absurd cc
  holds-over px py (pos (suc d)) same at is held =
      let at_is : at ≡ (floor_of (pos 64 *ℤ px) (pos (suc d)), floor_of (pos 64 *ℤ py) (pos (suc d))) = cc in
      holds-over_positive (record { x = px; y = py; w = pos (suc d) }) (omega (arith, ints)) same
      (subst (λ (a : ℤ × ℤ). HoldsFine r a.0 a.1) at_is held)
  holds-over px py (negsuc d) same at is held =
      let at_is : at ≡ (floor_of (neg_ℤ (pos 64 *ℤ px)) (pos (suc d)), floor_of (neg_ℤ (pos 64 *ℤ py)) (pos (suc d))) = cc in
      holds-over_positive (record { x = neg_ℤ px; y = neg_ℤ py; w = pos (suc d) }) (omega (arith, ints))
      (record { x = negated-row m.a m.c m.e m.q px py d x same.x; y = negated-row m.b m.d m.f m.q px py d y same.y })
      (rw (mul-neg (pos 64) px, mul-neg (pos 64) py) (subst (λ (a : ℤ × ℤ). HoldsFine r a.0 a.1) at_is held))

  -- the hull of a rectangle holds each point whose local point the rectangle holds
  pub holds-hull : (at : ℤ × ℤ) → local_point m x y ≡ Some at → HoldsFine r at.0 at.1 → Holds (hull_of m r) x y
  unfolding local_point
  holds-hull at is held = holds-over (preimage m x y).x (preimage m x y).y (preimage m x y).w (IsSamePoint-preimage m x y) at is held

-- what is so of each rectangle that holds a point, and begins in the second, is so of the part that two share that hold it
pub holds-shared : (h k : Rect) (x y : ℤ) → Holds h x y → Holds k x y → (P : Rect → Type 0) →
    ((s : Rect) → Holds s x y → k.l ≤ℤ s.l → k.t ≤ℤ s.t → P s) → P (shared_part h k)
holds-shared h k x y in_h in_k P then =
    let s : Rect = record { l = int_max h.l k.l; t = int_max h.t k.t; r = int_min h.r k.r; b = int_min h.b k.b } in
    let holds : Holds s x y = record {
      from_left = omega (arith, ints, clamps, in_h.from_left, in_k.from_left);
      before_right = omega (arith, ints, clamps, in_h.before_right, in_k.before_right);
      from_top = omega (arith, ints, clamps, in_h.from_top, in_k.from_top);
      before_bottom = omega (arith, ints, clamps, in_h.before_bottom, in_k.before_bottom);
    } in
    let is : shared_part h k ≡ s = zeros_if_empty-some s (omega (arith, ints, holds.from_left, holds.before_right)) (omega (arith, ints, holds.from_top, holds.before_bottom)) in
    subst P (sym is) (then s holds (omega (arith, ints, clamps)) (omega (arith, ints, clamps)))
