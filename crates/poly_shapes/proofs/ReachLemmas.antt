-- How far a stroke reaches: every point that it holds lies within the bounds, moved out by the width.
use Rattle.std.proofs.Common.{◌≡◌, ℕ, suc, ◌+◌, ◌*◌, ◌<◌, ◌≤◌, ◌⊎◌, inl, inr, ℤ, pos, negsuc, ◌+ℤ◌, ◌-ℤ◌, ◌*ℤ◌, neg_ℤ, ◌<ℤ◌, ◌≤ℤ◌, unsigned_abs, arith, refl, ap, sym, ◌∙◌}
use Rattle.std.proofs.lemmas.Int.{ints, by_lt_z, unsigned_abs-mul}
use Rattle.std.proofs.lemmas.Nat.{mul-le}
use Rattle.std.proofs.Math.IntN.{*ℤ_comm, *ℤ-zero, pos-*ℤ-pos, negsuc-*ℤ-negsuc}
use Rattle.std.specs.Prelude.{Bool, true, false, ◌&&◌, ◌||◌, int_le, int_lt, nat_le, nat_lt}
use Rattle.std.proofs.lemmas.Bool.Decides.{nat_tests}
use Rattle.poly_shapes.specs.declared.point.Point.{Point}
use Rattle.poly_shapes.specs.declared.point.Bounds.{Bounds}
use Rattle.poly_shapes.specs.declared.point.Cap.{Cap}
use Rattle.poly_shapes.specs.declared.point.Cap.TheVariants.{Butt, Round, Square}
use Rattle.poly_shapes.specs.declared.segment.Segment.{Segment}
use Rattle.poly_shapes.specs.Extent.{Holds, moved_out}
use Rattle.poly_shapes.specs.Stroke.{is_beside, is_between_ends, is_just_before, is_just_beyond, body_holds, square_before, square_beyond, disc_holds, dot_holds, has_length}
use Rattle.poly_shapes.proofs.ExtentLemmas.{HoldsPoint}
use Rattle.poly_shapes.specs.Segments.{square, across, along, distance, square_length}
use Rattle.whole_numbers.proofs.Products.{add-mul, sub-mul, mul-sub, mul_right_comm, le-mul, lt-mul}

-- the lesser of two squares is that of the lesser number
root-le : (m n : ℕ) → n * n ≤ m * m → n ≤ m
root-le m n h = by_order (m < n) (n ≤ m) (less_or_not m n) (λ below. absurd (above_square m n below h)) (λ le. le)
  where
    above_square : (m n : ℕ) → m < n → n * n ≤ m * m → ⊥
    above_square m n below le = let squares = mul-le (suc m) (suc m) n n (omega arith) (omega arith) in omega arith

    less_or_not : (m n : ℕ) → (m < n) ⊎ (n ≤ m)
    less_or_not m n = grind arith

    by_order : (P Q : Type 0) → P ⊎ Q → (P → n ≤ m) → (Q → n ≤ m) → n ≤ m
    by_order P Q (inl p) f g = f p
    by_order P Q (inr q) f g = g q

-- an offset k of at most half the width, times an extent d of at most the length: 2 k d <= w L^2
half_reach : (w length_squared k d : ℕ) → 4 * square k ≤ square w * length_squared → square d ≤ length_squared
    → 2 * (k * d) ≤ w * length_squared
half_reach w length_squared k d near short =
    root-le (w * length_squared) (2 * (k * d))
    (let both = mul-le (4 * square k) (square d) (square w * length_squared) length_squared near short in omega arith)

-- the same of whole numbers
signed_reach : (w length_squared : ℕ) (k d : ℤ)
    → 4 * square (unsigned_abs k) ≤ square w * length_squared → square (unsigned_abs d) ≤ length_squared
    → 2 * unsigned_abs (k *ℤ d) ≤ w * length_squared
signed_reach w length_squared k d near short =
    rw (unsigned_abs-mul k d) (half_reach w length_squared (unsigned_abs k) (unsigned_abs d) near short)

-- where a number times a positive one is at most a sum times it, it is at most the sum
cancel : (n : ℕ) (q bound : ℤ) → 0 < n → (q *ℤ pos n) ≤ℤ (bound *ℤ pos n) → q ≤ℤ bound
cancel n q bound positive h =
    by_lt_z bound q (λ above. absurd (let more = lt-mul bound q (pos n) (omega (arith, ints)) above in omega (arith, ints))) (λ le. le)

-- ---- along one axis

le-mul_turned : (p q w : ℤ) → w ≤ℤ pos 0 → p ≤ℤ q → (q *ℤ w) ≤ℤ (p *ℤ w)
le-mul_turned p q w not_above h =
    let turned = le-mul p q (pos 0 -ℤ w) (omega (arith, ints)) h in
    let first = mul-sub p (pos 0) w in
    let second = mul-sub q (pos 0) w in
    let none = *ℤ-zero p in
    let none_too = *ℤ-zero q in
    omega (arith, ints)

-- an offset to the side: it is at most half the width from the line, and no further along it than between lo and hi and
-- half the width beyond
reach_above : (n w : ℕ) (q d d' t u k hi : ℤ) → 0 < n → pos 0 ≤ℤ t → t ≤ℤ pos n
    → 4 * square (unsigned_abs u) ≤ square w * n → 4 * square (unsigned_abs k) ≤ square w * n
    → square (unsigned_abs d) ≤ n → square (unsigned_abs d') ≤ n
    → pos n *ℤ q ≡ (t +ℤ u) *ℤ d -ℤ k *ℤ d' → pos 0 ≤ℤ hi → d ≤ℤ hi → q ≤ℤ (hi +ℤ pos w)
reach_above n w q d d' t u k hi positive t_least t_most u_near k_near short short' whole hi_least d_most =
    let first = le-mul d hi t t_least d_most in
    let second = le-mul t (pos n) hi hi_least t_most in
    let c1 = *ℤ_comm d t in
    let c2 = *ℤ_comm hi t in
    let c3 = *ℤ_comm (pos n) hi in
    let c4 = *ℤ_comm (pos n) q in
    let split = add-mul t u d in
    let on_line = signed_reach w n u d u_near short in
    let off_line = signed_reach w n k d' k_near short' in
    let sum = add-mul hi (pos w) (pos n) in
    let width = pos-*ℤ-pos w n in
    cancel n q (hi +ℤ pos w) positive (omega (arith, ints))

reach_below : (n w : ℕ) (q d d' t u k lo : ℤ) → 0 < n → pos 0 ≤ℤ t → t ≤ℤ pos n
    → 4 * square (unsigned_abs u) ≤ square w * n → 4 * square (unsigned_abs k) ≤ square w * n
    → square (unsigned_abs d) ≤ n → square (unsigned_abs d') ≤ n
    → pos n *ℤ q ≡ (t +ℤ u) *ℤ d -ℤ k *ℤ d' → lo ≤ℤ pos 0 → lo ≤ℤ d → (lo -ℤ pos w) ≤ℤ q
reach_below n w q d d' t u k lo positive t_least t_most u_near k_near short short' whole lo_most d_least =
    let first = le-mul lo d t t_least d_least in
    let second = le-mul_turned t (pos n) lo lo_most t_most in
    let c1 = *ℤ_comm d t in
    let c2 = *ℤ_comm lo t in
    let c3 = *ℤ_comm (pos n) lo in
    let c4 = *ℤ_comm (pos n) q in
    let split = add-mul t u d in
    let on_line = signed_reach w n u d u_near short in
    let off_line = signed_reach w n k d' k_near short' in
    let sum = sub-mul lo (pos w) (pos n) in
    let width = pos-*ℤ-pos w n in
    cancel n (lo -ℤ pos w) q positive (omega (arith, ints))

-- ---- the two axes of a segment

square_abs : (z : ℤ) → pos (square (unsigned_abs z)) ≡ z *ℤ z
square_abs (pos n) = sym (pos-*ℤ-pos n n)
square_abs (negsuc n) = sym (negsuc-*ℤ-negsuc n n)

-- L^2 q = t d - k d', for the offset q of a point across and the extent d of a segment across; q' and d' are those down
offset_across : (d d' q q' : ℤ)
    → (d *ℤ d +ℤ d' *ℤ d') *ℤ q ≡ (d *ℤ q +ℤ d' *ℤ q') *ℤ d -ℤ (d *ℤ q' -ℤ q *ℤ d') *ℤ d'
offset_across d d' q q' =
    let a = add-mul (d *ℤ d) (d' *ℤ d') q in
    let b = add-mul (d *ℤ q) (d' *ℤ q') d in
    let c = sub-mul (d *ℤ q') (q *ℤ d') d' in
    let e = mul_right_comm d d q in
    let f = mul_right_comm d' d' q in
    let g = ap (λ v. v *ℤ d') (*ℤ_comm d' q) in
    let h = mul_right_comm d' q' d in
    let i = ap (λ v. v *ℤ q') (*ℤ_comm d' d) in
    let j = mul_right_comm d d' q' in
    omega (arith, ints)

offset_down : (d d' q q' : ℤ)
    → (d *ℤ d +ℤ d' *ℤ d') *ℤ q' ≡ (d *ℤ q +ℤ d' *ℤ q') *ℤ d' -ℤ neg_ℤ (d *ℤ q' -ℤ q *ℤ d') *ℤ d
offset_down d d' q q' =
    let a = add-mul (d *ℤ d) (d' *ℤ d') q' in
    let b = add-mul (d *ℤ q) (d' *ℤ q') d' in
    let turned : neg_ℤ (d *ℤ q' -ℤ q *ℤ d') ≡ q *ℤ d' -ℤ d *ℤ q' = omega (arith, ints) in
    let c = ap (λ v. v *ℤ d) turned ∙ sub-mul (q *ℤ d') (d *ℤ q') d in
    let e = mul_right_comm d d q' in
    let f = mul_right_comm d' d' q' in
    let g = mul_right_comm d q d' in
    let h = mul_right_comm d d' q in
    let i = mul_right_comm q d' d in
    let j = ap (λ v. v *ℤ d') (*ℤ_comm q d) in
    omega (arith, ints)

-- L^2 as whole numbers
whole_length : (d d' : ℤ) → pos (square (unsigned_abs d) + square (unsigned_abs d')) ≡ d *ℤ d +ℤ d' *ℤ d'
whole_length d d' = let a = square_abs d in let b = square_abs d' in omega (arith, ints)

-- a point that is beside a segment, and along it within the segment but for half the width, lies within the bounds of its
-- ends, moved out by the width
pub within_reach : (w : ℕ) (s : Segment) (t u x y : ℤ) (b : Bounds) → HoldsPoint b s.from → HoldsPoint b s.to
    → 0 < square_length s → along s x y ≡ t +ℤ u → pos 0 ≤ℤ t → t ≤ℤ pos (square_length s)
    → 4 * square (unsigned_abs u) ≤ square w * square_length s
    → 4 * square (unsigned_abs (across s x y)) ≤ square w * square_length s
    → Holds (moved_out w b) x y
within_reach w s t u x y b from to long whole t_least t_most u_near k_near =
    let d = s.to.x -ℤ s.from.x in
    let d' = s.to.y -ℤ s.from.y in
    let q = x -ℤ s.from.x in
    let q' = y -ℤ s.from.y in
    let n = square_length s in
    let k = across s x y in
    let short : square (unsigned_abs d) ≤ n = omega arith in
    let short' : square (unsigned_abs d') ≤ n = omega arith in
    let wide : pos n *ℤ q ≡ (t +ℤ u) *ℤ d -ℤ k *ℤ d' =
    ap (λ v. v *ℤ q) (whole_length d d') ∙ (offset_across d d' q q' ∙ ap (λ v. v *ℤ d -ℤ k *ℤ d') whole) in
    let tall : pos n *ℤ q' ≡ (t +ℤ u) *ℤ d' -ℤ neg_ℤ k *ℤ d =
    ap (λ v. v *ℤ q') (whole_length d d') ∙ (offset_down d d' q q' ∙ ap (λ v. v *ℤ d' -ℤ neg_ℤ k *ℤ d) whole) in
    let same : unsigned_abs (neg_ℤ k) ≡ unsigned_abs k = unsigned_abs-neg k in
    let turned_near : 4 * square (unsigned_abs (neg_ℤ k)) ≤ square w * n = rw same k_near in
    let most = reach_above n w q d d' t u k (b.r -ℤ s.from.x) long t_least t_most u_near k_near short short' wide
    (right_of_end b.r s.from.x from.right) (omega (arith, ints, to.right)) in
    let least = reach_below n w q d d' t u k (b.l -ℤ s.from.x) long t_least t_most u_near k_near short short' wide
    (left_of_end b.l s.from.x from.left) (omega (arith, ints, to.left)) in
    let most' = reach_above n w q' d' d t u (neg_ℤ k) (b.b -ℤ s.from.y) long t_least t_most u_near turned_near short' short tall
    (right_of_end b.b s.from.y from.bottom) (omega (arith, ints, to.bottom)) in
    let least' = reach_below n w q' d' d t u (neg_ℤ k) (b.t -ℤ s.from.y) long t_least t_most u_near turned_near short' short tall
    (left_of_end b.t s.from.y from.top) (omega (arith, ints, to.top)) in
    record {
      left = moved_least b.l s.from.x x w least;
      right = moved_most b.r s.from.x x w most;
      top = moved_least b.t s.from.y y w least';
      bottom = moved_most b.b s.from.y y w most';
    }
  where
    unsigned_abs-neg : (z : ℤ) → unsigned_abs (neg_ℤ z) ≡ unsigned_abs z
    unsigned_abs-neg z = omega (arith, ints)

    right_of_end : (r a : ℤ) → a ≤ℤ r → pos 0 ≤ℤ (r -ℤ a)
    right_of_end r a h = omega (arith, ints)

    left_of_end : (l a : ℤ) → l ≤ℤ a → (l -ℤ a) ≤ℤ pos 0
    left_of_end l a h = omega (arith, ints)

    moved_least : (l a x : ℤ) (w : ℕ) → ((l -ℤ a) -ℤ pos w) ≤ℤ (x -ℤ a) → (l -ℤ pos w) ≤ℤ x
    moved_least l a x w h = omega (arith, ints)

    moved_most : (r a x : ℤ) (w : ℕ) → (x -ℤ a) ≤ℤ ((r -ℤ a) +ℤ pos w) → x ≤ℤ (r +ℤ pos w)
    moved_most r a x w h = omega (arith, ints)

-- ---- what the tests say

pub and_true : (a b : Bool) → a && b ≡ true → (a ≡ true) × (b ≡ true)
and_true true b e = (refl, e)
and_true false b e = absurd (let no : ⊥ = cc in no)

pub or_true : (a b : Bool) → a || b ≡ true → (a ≡ true) ⊎ (b ≡ true)
or_true true b e = inl refl
or_true false b e = inr e

le-from : (a b : ℤ) → int_le a b ≡ true → a ≤ℤ b
le-from a b e = grind (arith, ints)

nat_le-from : (a b : ℕ) → nat_le a b ≡ true → a ≤ b
nat_le-from a b e = grind (arith, nat_tests)

nat_lt-from : (a b : ℕ) → nat_lt a b ≡ true → a < b
nat_lt-from a b e = grind (arith, nat_tests)

-- a segment that is drawn: it has a length, and the bounds hold its ends
pub record IsDrawn (b : Bounds) (s : Segment) : Type 0 where
  pub from : HoldsPoint b s.from
  pub to : HoldsPoint b s.to
  pub long : has_length s ≡ true

pub body-reach : (w : ℕ) (x y : ℤ) (b : Bounds) (s : Segment) → IsDrawn b s → body_holds w x y s ≡ true → Holds (moved_out w b) x y
body-reach w x y b s drawn e =
    let parts = and_true (is_between_ends s x y) (is_beside w s x y) e in
    let ends = and_true (int_le (pos 0) (along s x y)) (int_le (along s x y) (pos (square_length s))) parts.0 in
    within_reach w s (along s x y) (pos 0) x y b drawn.from drawn.to (nat_lt-from 0 (square_length s) drawn.long)
    (omega (arith, ints)) (le-from (pos 0) (along s x y) ends.0) (le-from (along s x y) (pos (square_length s)) ends.1)
    (omega arith) (nat_le-from _ _ parts.1)

pub before-reach : (w : ℕ) (x y : ℤ) (b : Bounds) (s : Segment) → IsDrawn b s → square_before w x y s ≡ true → Holds (moved_out w b) x y
before-reach w x y b s drawn e =
    let parts = and_true (is_just_before w s x y) (is_beside w s x y) e in
    let near = and_true (int_lt (along s x y) (pos 0)) _ parts.0 in
    within_reach w s (pos 0) (along s x y) x y b drawn.from drawn.to (nat_lt-from 0 (square_length s) drawn.long)
    (omega (arith, ints)) (omega (arith, ints)) (omega (arith, ints))
    (nat_le-from _ _ near.1) (nat_le-from _ _ parts.1)

pub beyond-reach : (w : ℕ) (x y : ℤ) (b : Bounds) (s : Segment) → IsDrawn b s → square_beyond w x y s ≡ true → Holds (moved_out w b) x y
beyond-reach w x y b s drawn e =
    let parts = and_true (is_just_beyond w s x y) (is_beside w s x y) e in
    let near = and_true (int_lt (pos (square_length s)) (along s x y)) _ parts.0 in
    within_reach w s (pos (square_length s)) (along s x y -ℤ pos (square_length s)) x y b drawn.from drawn.to
    (nat_lt-from 0 (square_length s) drawn.long)
    (omega (arith, ints)) (omega (arith, ints)) (omega (arith, ints))
    (nat_le-from _ _ near.1) (nat_le-from _ _ parts.1)

-- a point no further than half the width, across and down, from one that the bounds hold
near-reach : (w : ℕ) (x y : ℤ) (b : Bounds) (p : Point) → HoldsPoint b p → 2 * distance x p.x ≤ w → 2 * distance y p.y ≤ w
    → Holds (moved_out w b) x y
near-reach w x y b p held across_near down_near = record {
  left = least b.l p.x x w held.left across_near;
  right = most b.r p.x x w held.right across_near;
  top = least b.t p.y y w held.top down_near;
  bottom = most b.b p.y y w held.bottom down_near;
}
  where
    least : (l a x : ℤ) (w : ℕ) → l ≤ℤ a → 2 * distance x a ≤ w → (l -ℤ pos w) ≤ℤ x
    least l a x w h near = omega (arith, ints)

    most : (r a x : ℤ) (w : ℕ) → a ≤ℤ r → 2 * distance x a ≤ w → x ≤ℤ (r +ℤ pos w)
    most r a x w h near = omega (arith, ints)

pub disc-reach : (w : ℕ) (x y : ℤ) (b : Bounds) (p : Point) → HoldsPoint b p → disc_holds w x y p ≡ true → Holds (moved_out w b) x y
disc-reach w x y b p held e =
    let near = nat_le-from _ _ e in
    near-reach w x y b p held
    (root-le w (2 * distance x p.x) (omega arith)) (root-le w (2 * distance y p.y) (omega arith))

pub dot-reach : (cap : Cap) (w : ℕ) (x y : ℤ) (b : Bounds) (p : Point) → HoldsPoint b p → dot_holds cap w x y p ≡ true
    → Holds (moved_out w b) x y
dot-reach Butt w x y b p held e = absurd (let no : ⊥ = cc in no)
dot-reach Round w x y b p held e = disc-reach w x y b p held e
dot-reach Square w x y b p held e =
    let parts = and_true (nat_le (2 * distance x p.x) w) (nat_le (2 * distance y p.y) w) e in
    near-reach w x y b p held (nat_le-from _ _ parts.0) (nat_le-from _ _ parts.1)
