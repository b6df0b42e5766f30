-- What the code computes on 128 bits, without its casts. Each lemma speaks of plain numbers, so that the answers that
-- cite it run no tactic over all that is known at a call.
use Rattle.std.proofs.Common.{ℕ, ◌≡◌, ◌+◌, ◌^◌, ◌<◌, ◌≤◌, ℤ, pos, ◌<ℤ◌, ◌+ℤ◌, ◌-ℤ◌, ◌*ℤ◌, ◌∙◌, FitsSigned, to_z, of_z, arith, ap, lit≤}
use Rattle.std.proofs.Math.Nat.{le_trans}
use Rattle.std.specs.Prelude.{unsigned_abs, int_div}
use Rattle.std.specs.Int.{w64, w128}
use Rattle.std.proofs.lemmas.Int.{ints, to_z-of_z}
use Rattle.affine.specs.declared.map.Parts.{Parts}
use Rattle.whole_numbers.proofs.Widths.{width-add, width-sub}
use Rattle.fractions.specs.Division.{IsFloor}
use Rattle.affine.specs.Gcd.{gcd}
use Rattle.affine.specs.Map.{IsWithin, IsWithinBound}

-- a number as it is read back from its bits
abbrev pub read : ℤ → ℤ
read z = to_z w128 (of_z w128 z)

-- what a part of a matrix is at most, a part of a translation is at most
pub wide : (n : ℕ) → n ≤ 2 ^ 44 → n ≤ 2 ^ 70
wide n h = le_trans h (lit≤ tt)

-- a number of at most 120 bits is what is read back
pub narrow : (z : ℤ) → unsigned_abs z ≤ 2 ^ 120 → read z ≡ z
narrow z h = let fits : FitsSigned w128 z = omega (arith, ints) in to_z-of_z w128 z fits

pub narrow-size : (z : ℤ) (n : ℕ) → unsigned_abs z ≤ n → n ≤ 2 ^ 120 → unsigned_abs (read z) ≤ n
narrow-size z n h small = rw (narrow z (le_trans h small)) h

-- a part of a matrix, a number that a part is multiplied by, and what a call answers
pub part_size : (z : ℤ) → unsigned_abs z ≤ 2 ^ 44 → unsigned_abs (read z) ≤ 2 ^ 44
part_size z h = narrow-size z (2 ^ 44) h (lit≤ tt)

pub factor_size : (z : ℤ) → unsigned_abs z ≤ 2 ^ 70 → unsigned_abs (read z) ≤ 2 ^ 71
factor_size z h = le_trans (narrow-size z (2 ^ 70) h (lit≤ tt)) (lit≤ tt)

pub answer_size : (z : ℤ) → unsigned_abs z ≤ 2 ^ 120 → unsigned_abs (read z) ≤ 2 ^ 120
answer_size z h = narrow-size z (2 ^ 120) h (lit≤ tt)

pub image_size : (z : ℤ) → unsigned_abs z ≤ 2 ^ 117 → unsigned_abs (read z) ≤ 2 ^ 117
image_size z h = narrow-size z (2 ^ 117) h (lit≤ tt)

pub positive-read : (z : ℤ) → unsigned_abs z ≤ 2 ^ 44 → pos 0 <ℤ z → pos 0 <ℤ read z
positive-read z h some = rw (narrow z (le_trans h (lit≤ tt))) some

-- the seven parts of a map
pub record AreRead (m : Parts) : Type 0 where
  pub a : read m.a ≡ m.a
  pub b : read m.b ≡ m.b
  pub c : read m.c ≡ m.c
  pub d : read m.d ≡ m.d
  pub e : read m.e ≡ m.e
  pub f : read m.f ≡ m.f
  pub q : read m.q ≡ m.q

pub AreRead-within : (m : Parts) → IsWithin m (2 ^ 120) (2 ^ 120) → AreRead m
AreRead-within m h = record {
  a = narrow m.a h.a;
  b = narrow m.b h.b;
  c = narrow m.c h.c;
  d = narrow m.d h.d;
  e = narrow m.e h.e;
  f = narrow m.f h.f;
  q = narrow m.q h.q;
}

pub AreRead-bound : (m : Parts) → IsWithinBound m → AreRead m
AreRead-bound m h = AreRead-within m (record {
  a = le_trans h.a (lit≤ tt);
  b = le_trans h.b (lit≤ tt);
  c = le_trans h.c (lit≤ tt);
  d = le_trans h.d (lit≤ tt);
  e = le_trans h.e (lit≤ tt);
  f = le_trans h.f (lit≤ tt);
  q = le_trans h.q (lit≤ tt);
})

-- a number of 64 bits, as a call widens it
pub widened : (u r : ℤ) → FitsSigned w64 u → r ≡ to_z w64 (of_z w64 u) → read r ≡ u
widened u r fits e =
    let wide : FitsSigned w128 u = omega (arith, ints) in
    ap read (e ∙ to_z-of_z w64 u fits) ∙ to_z-of_z w128 u wide

pub widened-size : (u r : ℤ) → FitsSigned w64 u → r ≡ to_z w64 (of_z w64 u) → unsigned_abs (read r) ≤ 2 ^ 71
widened-size u r fits e = rw (widened u r fits e) (small u fits)
  where
    small : (u : ℤ) → FitsSigned w64 u → unsigned_abs u ≤ 2 ^ 71
    small u fits = omega (arith, ints)

pub times_one : (z : ℤ) → z *ℤ pos 1 ≡ z
times_one z = omega (arith, ints)

-- the code's s + t and s - t, where both are narrow enough
pub sum-fits : (s t : ℤ) → unsigned_abs s ≤ 2 ^ 117 → unsigned_abs t ≤ 2 ^ 117 → FitsSigned w128 (read s +ℤ read t)
sum-fits s t p q = omega (arith, ints)

pub sum-read : (s t : ℤ) → unsigned_abs s ≤ 2 ^ 117 → unsigned_abs t ≤ 2 ^ 117 → read (read s +ℤ read t) ≡ s +ℤ t
sum-read s t p q = omega (arith, ints)

pub difference-fits : (s t : ℤ) → unsigned_abs s ≤ 2 ^ 117 → unsigned_abs t ≤ 2 ^ 117 → FitsSigned w128 (read s -ℤ read t)
difference-fits s t p q = omega (arith, ints)

pub difference-read : (s t : ℤ) → unsigned_abs s ≤ 2 ^ 117 → unsigned_abs t ≤ 2 ^ 117 → read (read s -ℤ read t) ≡ s -ℤ t
difference-read s t p q = omega (arith, ints)

-- the code's z + 1, where z is v
pub next-fits : (z : ℤ) → unsigned_abs z ≤ 2 ^ 126 → FitsSigned w128 (read z +ℤ pos 1)
next-fits z small = omega (arith, ints)

pub next-read : (z v : ℤ) → unsigned_abs z ≤ 2 ^ 126 → z ≡ v → read (read z +ℤ pos 1) ≡ v +ℤ pos 1
next-read z v small e = omega (arith, ints)

-- how wide they get
pub sum-size :
    (s t : ℤ) (m n : ℕ) → m ≤ 2 ^ 117 → n ≤ 2 ^ 117 → unsigned_abs s ≤ m → unsigned_abs t ≤ n →
    unsigned_abs (read (read s +ℤ read t)) ≤ m + n
sum-size s t m n i j p q = rw (sum-read s t (le_trans p i) (le_trans q j)) (width-add s t m n p q)

pub difference-size :
    (s t : ℤ) (m n : ℕ) → m ≤ 2 ^ 117 → n ≤ 2 ^ 117 → unsigned_abs s ≤ m → unsigned_abs t ≤ n →
    unsigned_abs (read (read s -ℤ read t)) ≤ m + n
difference-size s t m n i j p q = rw (difference-read s t (le_trans p i) (le_trans q j)) (width-sub s t m n p q)

-- what a call answers that was passed a, x, c, y and answers a x + c y, as it is read back
pub products-read :
    (a x c y r : ℤ) →
    unsigned_abs a ≤ 2 ^ 44 → unsigned_abs x ≤ 2 ^ 70 → unsigned_abs c ≤ 2 ^ 44 → unsigned_abs y ≤ 2 ^ 70 → unsigned_abs r ≤ 2 ^ 116 →
    r ≡ read a *ℤ read x +ℤ read c *ℤ read y → read r ≡ a *ℤ x +ℤ c *ℤ y
products-read a x c y r na nx nc ny nr e =
    narrow r (le_trans nr (lit≤ tt))
    ∙ rw (
      narrow a (le_trans na (lit≤ tt)),
      narrow x (le_trans nx (lit≤ tt)),
      narrow c (le_trans nc (lit≤ tt)),
      narrow y (le_trans ny (lit≤ tt)),
    ) at e

-- what a call answers that was passed n and a divisor g, and answers their quotient
pub quotient-read :
    (n by g r : ℤ) → unsigned_abs n ≤ 2 ^ 120 → FitsSigned w128 by → FitsSigned w128 r → by ≡ g →
    r ≡ int_div (read n) (read by) → read r ≡ int_div n g
quotient-read n by g r small fb fr same e = to_z-of_z w128 r fr ∙ rw (narrow n small, to_z-of_z w128 by fb, same) at e

-- what a call answers that was passed two numbers, or a number and the divisor before it, and answers the divisor of both
pub first_divisor-read :
    (n m r : ℤ) → unsigned_abs n ≤ 2 ^ 120 → unsigned_abs m ≤ 2 ^ 120 →
    r ≡ pos (gcd (unsigned_abs (read n)) (unsigned_abs (read m))) → unsigned_abs r ≤ 2 ^ 126 →
    read r ≡ pos (gcd (unsigned_abs n) (unsigned_abs m))
first_divisor-read n m r small small' e fits =
    let there : read r ≡ r = omega (arith, ints) in
    there ∙ rw (narrow n small, narrow m small') at e

pub divisor-read :
    (n before r : ℤ) (g : ℕ) → unsigned_abs n ≤ 2 ^ 120 → read before ≡ pos g →
    r ≡ pos (gcd (unsigned_abs (read n)) (unsigned_abs (read before))) → unsigned_abs r ≤ 2 ^ 126 →
    read r ≡ pos (gcd (unsigned_abs n) g)
divisor-read n before r g small same e fits =
    let there : read r ≡ r = omega (arith, ints) in
    there ∙ rw (narrow n small, same) at e

pub positive_pos : (n : ℕ) → 0 < n → pos 0 <ℤ pos n
positive_pos n h = omega (arith, ints)

-- the code's 64 n
pub times_64-fits : (n : ℤ) → unsigned_abs n ≤ 2 ^ 116 → FitsSigned w128 (pos 64 *ℤ read n)
times_64-fits n small = omega (arith, ints)

pub times_64-read : (n : ℤ) → unsigned_abs n ≤ 2 ^ 116 → read (pos 64 *ℤ read n) ≡ pos 64 *ℤ n
times_64-read n small = omega (arith, ints)

pub times_64-size : (n : ℤ) → unsigned_abs n ≤ 2 ^ 116 → unsigned_abs (pos 64 *ℤ n) ≤ 2 ^ 122
times_64-size n small = omega (arith, ints)

-- what a call answers that was passed n and w, and answers the floor of 64 n / w
pub floor-read :
    (n w r n' w' : ℤ) → FitsSigned w128 r → unsigned_abs n ≤ 2 ^ 120 → n ≡ n' → unsigned_abs w ≤ 2 ^ 120 → w ≡ w' →
    IsFloor (pos 64 *ℤ read n) (read w) r → IsFloor (pos 64 *ℤ n') w' (read r)
floor-read n w r n' w' fits small same small' same' floor =
    rw (to_z-of_z w128 r fits) (rw (narrow n small, same, narrow w small', same') at floor)

-- parts with the same numbers are the same
pub same_parts : {a a' b b' c c' d d' e e' f f' q q' : ℤ}
    → a ≡ a' → b ≡ b' → c ≡ c' → d ≡ d' → e ≡ e' → f ≡ f' → q ≡ q'
    → (let one : Parts = record { a = a; b = b; c = c; d = d; e = e; f = f; q = q } in
    let other : Parts = record { a = a'; b = b'; c = c'; d = d'; e = e'; f = f'; q = q' } in one ≡ other)
same_parts ea eb ec ed ee ef eq = cc
