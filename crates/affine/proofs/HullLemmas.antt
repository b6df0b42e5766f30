-- A row of the matrix is linear, so over a closed rectangle it lies between its least and its greatest value at the
-- four corners. Each lemma here speaks of one coordinate.
use Rattle.std.proofs.Common.{ℕ, suc, ◌≡◌, ◌≢◌, ◌⊎◌, inl, inr, ℤ, pos, negsuc, ◌+ℤ◌, ◌*ℤ◌, ◌<ℤ◌, ◌≤ℤ◌, arith, ap, ◌∙◌, sym, refl}
use borrow.Author.Differences.{lt_out, le_out, true_is_lt}
use Rattle.std.proofs.Math.Nat.{mul-le-mul_left}
use Rattle.std.proofs.lemmas.Int.{ints, clamps}
use Rattle.fractions.specs.declared.rect.Rect.{Rect}
use Rattle.whole_numbers.proofs.Products.{mul_assoc, add-mul, le-mul, lt-mul, lt-cancel}
use Rattle.affine.specs.declared.map.Parts.{Parts}
use Rattle.affine.specs.Point.{image, whole_point, floor_of}
use Rattle.affine.specs.Hull.{IsInClosed, IsHull, least_of, greatest_of, hull_of, zeros_if_empty}
use Rattle.affine.proofs.FloorLemmas.{IsFloor-floor_of}

-- products by one number keep the order, and by a negative one they turn it
mul-le : (n : ℕ) (p q : ℤ) → p ≤ℤ q → (pos n *ℤ p) ≤ℤ (pos n *ℤ q)
mul-le n p q h = omega (arith, ints, mul-le-mul_left n (le_out p q h))

mul-le_turned : (n : ℕ) (p q : ℤ) → p ≤ℤ q → (negsuc n *ℤ q) ≤ℤ (negsuc n *ℤ p)
mul-le_turned n p q h = omega (arith, ints, mul-le-mul_left (suc n) (le_out p q h))

-- a x is at least a times one of the ends between which x lies, and at most a times the other
pub one_end_below : (a l r x w : ℤ) → (l *ℤ w) ≤ℤ x → x ≤ℤ (r *ℤ w) → ((a *ℤ l *ℤ w) ≤ℤ (a *ℤ x)) ⊎ ((a *ℤ r *ℤ w) ≤ℤ (a *ℤ x))
one_end_below (pos n) l r x w p q = inl (rw (mul_assoc (pos n) l w) (mul-le n (l *ℤ w) x p))
one_end_below (negsuc n) l r x w p q = inr (rw (mul_assoc (negsuc n) r w) (mul-le_turned n x (r *ℤ w) q))

pub one_end_above : (a l r x w : ℤ) → (l *ℤ w) ≤ℤ x → x ≤ℤ (r *ℤ w) → ((a *ℤ x) ≤ℤ (a *ℤ l *ℤ w)) ⊎ ((a *ℤ x) ≤ℤ (a *ℤ r *ℤ w))
one_end_above (pos n) l r x w p q = inr (rw (mul_assoc (pos n) r w) (mul-le n x (r *ℤ w) q))
one_end_above (negsuc n) l r x w p q = inl (rw (mul_assoc (negsuc n) l w) (mul-le_turned n (l *ℤ w) x p))

-- the least of four numbers is below each, and the greatest above each
pub least-below : (a b c d : ℤ) → (least_of a b c d ≤ℤ a) × (least_of a b c d ≤ℤ b) × (least_of a b c d ≤ℤ c) × (least_of a b c d ≤ℤ d)
least-below a b c d = (omega (arith, ints, clamps), omega (arith, ints, clamps), omega (arith, ints, clamps), omega (arith, ints, clamps))

pub greatest-above : (a b c d : ℤ) → (a ≤ℤ greatest_of a b c d) × (b ≤ℤ greatest_of a b c d) × (c ≤ℤ greatest_of a b c d) × (d ≤ℤ greatest_of a b c d)
greatest-above a b c d = (omega (arith, ints, clamps), omega (arith, ints, clamps), omega (arith, ints, clamps), omega (arith, ints, clamps))

pub below-least : (k a b c d : ℤ) → k ≤ℤ a → k ≤ℤ b → k ≤ℤ c → k ≤ℤ d → k ≤ℤ least_of a b c d
below-least k a b c d p q r s = omega (arith, ints, clamps)

pub above-greatest : (k a b c d : ℤ) → a <ℤ k → b <ℤ k → c <ℤ k → d <ℤ k → greatest_of a b c d <ℤ k
above-greatest k a b c d p q r s = omega (arith, ints, clamps)

-- a row by a corner, and by any point
abbrev row : ℤ → ℤ → ℤ → ℤ → ℤ → ℤ → ℤ
row a c e u v w = a *ℤ u +ℤ c *ℤ v +ℤ e *ℤ w

corner-mul : (a c e u v w : ℤ) → row a c e u v (pos 1) *ℤ w ≡ a *ℤ u *ℤ w +ℤ c *ℤ v *ℤ w +ℤ e *ℤ w
corner-mul a c e u v w =
    let one : e *ℤ pos 1 ≡ e = omega (arith, ints) in
    add-mul (a *ℤ u +ℤ c *ℤ v) (e *ℤ pos 1) w
    ∙ ap (λ s. s +ℤ e *ℤ pos 1 *ℤ w) (add-mul (a *ℤ u) (c *ℤ v) w)
    ∙ ap (λ s. a *ℤ u *ℤ w +ℤ c *ℤ v *ℤ w +ℤ s *ℤ w) one

-- a corner whose two products are below those of the point is below it, and likewise above
corner-below :
    (a c e u v x y w : ℤ) → (a *ℤ u *ℤ w) ≤ℤ (a *ℤ x) → (c *ℤ v *ℤ w) ≤ℤ (c *ℤ y) →
    (row a c e u v (pos 1) *ℤ w) ≤ℤ row a c e x y w
corner-below a c e u v x y w p q = rw (corner-mul a c e u v w) (sum-le (a *ℤ u *ℤ w) (c *ℤ v *ℤ w) (e *ℤ w) (a *ℤ x) (c *ℤ y) p q)
  where
    sum-le : (s t z s' t' : ℤ) → s ≤ℤ s' → t ≤ℤ t' → (s +ℤ t +ℤ z) ≤ℤ (s' +ℤ t' +ℤ z)
    sum-le s t z s' t' p q = omega (arith, ints)

corner-above :
    (a c e u v x y w : ℤ) → (a *ℤ x) ≤ℤ (a *ℤ u *ℤ w) → (c *ℤ y) ≤ℤ (c *ℤ v *ℤ w) →
    row a c e x y w ≤ℤ (row a c e u v (pos 1) *ℤ w)
corner-above a c e u v x y w p q = rw (corner-mul a c e u v w) (sum-le (a *ℤ x) (c *ℤ y) (e *ℤ w) (a *ℤ u *ℤ w) (c *ℤ v *ℤ w) p q)
  where
    sum-le : (s t z s' t' : ℤ) → s ≤ℤ s' → t ≤ℤ t' → (s +ℤ t +ℤ z) ≤ℤ (s' +ℤ t' +ℤ z)
    sum-le s t z s' t' p q = omega (arith, ints)

below : {w : ℤ} → pos 0 <ℤ w → pos 0 ≤ℤ w
below h = omega (arith, ints)

chain : (p q r : ℤ) → p ≤ℤ q → q ≤ℤ r → p ≤ℤ r
chain p q r h k = omega (arith, ints)

module _ (a c e l r t b : ℤ) where
  -- the least and the greatest value of the row at the four corners
  abbrev pub least_corner : ℤ
  least_corner = least_of (row a c e l t (pos 1)) (row a c e r t (pos 1)) (row a c e l b (pos 1)) (row a c e r b (pos 1))

  abbrev pub greatest_corner : ℤ
  greatest_corner = greatest_of (row a c e l t (pos 1)) (row a c e r t (pos 1)) (row a c e l b (pos 1)) (row a c e r b (pos 1))

  module _ (x y w : ℤ) (positive : pos 0 <ℤ w) (from_l : (l *ℤ w) ≤ℤ x) (to_r : x ≤ℤ (r *ℤ w)) (from_t : (t *ℤ w) ≤ℤ y) (to_b : y ≤ℤ (b *ℤ w)) where
    least_corner-below : (least_corner *ℤ w) ≤ℤ row a c e x y w
    least_corner-below =
        let least = least-below (row a c e l t (pos 1)) (row a c e r t (pos 1)) (row a c e l b (pos 1)) (row a c e r b (pos 1)) in
        let under : (u v : ℤ) → least_corner ≤ℤ row a c e u v (pos 1) → (a *ℤ u *ℤ w) ≤ℤ (a *ℤ x) → (c *ℤ v *ℤ w) ≤ℤ (c *ℤ y) → (least_corner *ℤ w) ≤ℤ row a c e x y w =
        λ u v h p q. chain (least_corner *ℤ w) (row a c e u v (pos 1) *ℤ w) (row a c e x y w)
        (le-mul least_corner (row a c e u v (pos 1)) w (below positive) h) (corner-below a c e u v x y w p q) in
        elim (one_end_below a l r x w from_l to_r) [
          | inl p ↦ elim (one_end_below c t b y w from_t to_b) [ inl q ↦ under l t least.0 p q | inr q ↦ under l b least.2 p q ]
          | inr p ↦ elim (one_end_below c t b y w from_t to_b) [ inl q ↦ under r t least.1 p q | inr q ↦ under r b least.3 p q ]
        ]

    greatest_corner-above : row a c e x y w ≤ℤ (greatest_corner *ℤ w)
    greatest_corner-above =
        let greatest = greatest-above (row a c e l t (pos 1)) (row a c e r t (pos 1)) (row a c e l b (pos 1)) (row a c e r b (pos 1)) in
        let over : (u v : ℤ) → row a c e u v (pos 1) ≤ℤ greatest_corner → (a *ℤ x) ≤ℤ (a *ℤ u *ℤ w) → (c *ℤ y) ≤ℤ (c *ℤ v *ℤ w) → row a c e x y w ≤ℤ (greatest_corner *ℤ w) =
        λ u v h p q. chain (row a c e x y w) (row a c e u v (pos 1) *ℤ w) (greatest_corner *ℤ w)
        (corner-above a c e u v x y w p q) (le-mul (row a c e u v (pos 1)) greatest_corner w (below positive) h) in
        elim (one_end_above a l r x w from_l to_r) [
          | inl p ↦ elim (one_end_above c t b y w from_t to_b) [ inl q ↦ over l t greatest.0 p q | inr q ↦ over l b greatest.2 p q ]
          | inr p ↦ elim (one_end_above c t b y w from_t to_b) [ inl q ↦ over r t greatest.1 p q | inr q ↦ over r b greatest.3 p q ]
        ]

some_from_positive : (q : ℤ) → pos 0 <ℤ q → q ≢ pos 0
some_from_positive q h e = absurd (omega (arith, ints, e))

le-lt : (p q r : ℤ) → p ≤ℤ q → q <ℤ r → p <ℤ r
le-lt p q r h k = omega (arith, ints)

-- what lies above n / q lies above its floor, and what lies at most at n / q lies below the floor's next number
floor-below : (n q s w : ℤ) → pos 0 <ℤ q → pos 0 <ℤ w → (n *ℤ w) ≤ℤ s → (floor_of n q *ℤ (q *ℤ w)) ≤ℤ s
floor-below n q s w hq hw h =
    let f = floor_of n q in
    let floor = IsFloor-floor_of n q (some_from_positive q hq) in
    rw (← mul_assoc f q w) (chain (f *ℤ q *ℤ w) (n *ℤ w) s (le-mul (f *ℤ q) n w (below hw) (floor.at_most hq)) h)

next-above : (n q s w : ℤ) → pos 0 <ℤ q → pos 0 <ℤ w → s ≤ℤ (n *ℤ w) → s <ℤ ((floor_of n q +ℤ pos 1) *ℤ (q *ℤ w))
next-above n q s w hq hw h =
    let f = floor_of n q +ℤ pos 1 in
    let floor = IsFloor-floor_of n q (some_from_positive q hq) in
    rw (← mul_assoc f q w) (le-lt s (n *ℤ w) (f *ℤ q *ℤ w) h (lt-mul n (f *ℤ q) w hw (floor.next_above hq)))

times_one : (k q : ℤ) → k *ℤ (q *ℤ pos 1) ≡ k *ℤ q
times_one k q = let one : q *ℤ pos 1 ≡ q = omega (arith, ints) in ap (λ s. k *ℤ s) one

-- and no whole number between serves
floor-greatest : (n q k : ℤ) → pos 0 <ℤ q → (k *ℤ (q *ℤ pos 1)) ≤ℤ n → k ≤ℤ floor_of n q
floor-greatest n q k hq h =
    let f = floor_of n q in
    let floor = IsFloor-floor_of n q (some_from_positive q hq) in
    let below : k <ℤ (f +ℤ pos 1) =
    lt-cancel k (f +ℤ pos 1) q hq (le-lt (k *ℤ q) n ((f +ℤ pos 1) *ℤ q) (rw (times_one k q) at h) (floor.next_above hq)) in
    omega (arith, ints, below)

next-least : (n q k : ℤ) → pos 0 <ℤ q → n <ℤ (k *ℤ (q *ℤ pos 1)) → (floor_of n q +ℤ pos 1) ≤ℤ k
next-least n q k hq h =
    let f = floor_of n q in
    let floor = IsFloor-floor_of n q (some_from_positive q hq) in
    let below : f <ℤ k = lt-cancel f k q hq (le-lt (f *ℤ q) n (k *ℤ q) (floor.at_most hq) (rw (times_one k q) at h)) in
    omega (arith, ints, below)

-- the corners lie in the closed rectangle
corner-IsInClosed : (r : Rect) (u v : ℤ) → r.l ≤ℤ u → u ≤ℤ r.r → r.t ≤ℤ v → v ≤ℤ r.b → IsInClosed r (whole_point u v)
corner-IsInClosed r u v a b c d = record {
  positive = omega (arith, ints);
  from_left = omega (arith, ints);
  to_right = omega (arith, ints);
  from_top = omega (arith, ints);
  to_bottom = omega (arith, ints);
}

-- the hull of the four corners' images is the least rectangle that holds every image
pub IsHull-hull_of : (m : Parts) (r : Rect) → pos 0 <ℤ m.q → r.l ≤ℤ r.r → r.t ≤ℤ r.b → IsHull m r (hull_of m r)
IsHull-hull_of m r positive across down = record {
  holds = λ p inside.
      let x_least = least_corner-below m.a m.c m.e r.l r.r r.t r.b p.x p.y p.w inside.positive inside.from_left inside.to_right inside.from_top inside.to_bottom in
      let x_greatest = greatest_corner-above m.a m.c m.e r.l r.r r.t r.b p.x p.y p.w inside.positive inside.from_left inside.to_right inside.from_top inside.to_bottom in
      let y_least = least_corner-below m.b m.d m.f r.l r.r r.t r.b p.x p.y p.w inside.positive inside.from_left inside.to_right inside.from_top inside.to_bottom in
      let y_greatest = greatest_corner-above m.b m.d m.f r.l r.r r.t r.b p.x p.y p.w inside.positive inside.from_left inside.to_right inside.from_top inside.to_bottom in
      record {
        from_left = floor-below (least_corner m.a m.c m.e r.l r.r r.t r.b) m.q (image m p).x p.w positive inside.positive x_least;
        before_right = next-above (greatest_corner m.a m.c m.e r.l r.r r.t r.b) m.q (image m p).x p.w positive inside.positive x_greatest;
        from_top = floor-below (least_corner m.b m.d m.f r.l r.r r.t r.b) m.q (image m p).y p.w positive inside.positive y_least;
        before_bottom = next-above (greatest_corner m.b m.d m.f r.l r.r r.t r.b) m.q (image m p).y p.w positive inside.positive y_greatest;
      };
  least = λ k holds.
      let same : (z : ℤ) → z ≤ℤ z = λ z. omega (arith, ints) in
      let lt' = holds (whole_point r.l r.t) (corner-IsInClosed r r.l r.t (same r.l) across (same r.t) down) in
      let rt = holds (whole_point r.r r.t) (corner-IsInClosed r r.r r.t across (same r.r) (same r.t) down) in
      let lb = holds (whole_point r.l r.b) (corner-IsInClosed r r.l r.b (same r.l) across down (same r.b)) in
      let rb = holds (whole_point r.r r.b) (corner-IsInClosed r r.r r.b across (same r.r) down (same r.b)) in
      let one = m.q *ℤ pos 1 in
      record {
        left = floor-greatest (least_corner m.a m.c m.e r.l r.r r.t r.b) m.q k.l positive
            (below-least (k.l *ℤ one) (image m (whole_point r.l r.t)).x (image m (whole_point r.r r.t)).x (image m (whole_point r.l r.b)).x (image m (whole_point r.r r.b)).x
            lt'.from_left rt.from_left lb.from_left rb.from_left);
        top = floor-greatest (least_corner m.b m.d m.f r.l r.r r.t r.b) m.q k.t positive
            (below-least (k.t *ℤ one) (image m (whole_point r.l r.t)).y (image m (whole_point r.r r.t)).y (image m (whole_point r.l r.b)).y (image m (whole_point r.r r.b)).y
            lt'.from_top rt.from_top lb.from_top rb.from_top);
        right = next-least (greatest_corner m.a m.c m.e r.l r.r r.t r.b) m.q k.r positive
            (above-greatest (k.r *ℤ one) (image m (whole_point r.l r.t)).x (image m (whole_point r.r r.t)).x (image m (whole_point r.l r.b)).x (image m (whole_point r.r r.b)).x
            lt'.before_right rt.before_right lb.before_right rb.before_right);
        bottom = next-least (greatest_corner m.b m.d m.f r.l r.r r.t r.b) m.q k.b positive
            (above-greatest (k.b *ℤ one) (image m (whole_point r.l r.t)).y (image m (whole_point r.r r.t)).y (image m (whole_point r.l r.b)).y (image m (whole_point r.r r.b)).y
            lt'.before_bottom rt.before_bottom lb.before_bottom rb.before_bottom);
      };
}

-- where both sides are longer than 0, the rectangle stays
pub zeros_if_empty-some : (r : Rect) → r.l <ℤ r.r → r.t <ℤ r.b → zeros_if_empty r ≡ r
zeros_if_empty-some r p q =
    let across = sym (true_is_lt r.l r.r (lt_out r.l r.r p)) in
    let down = sym (true_is_lt r.t r.b (lt_out r.t r.b q)) in
    rw (across, down) refl
