-- The bounds of points: the lesser and the greater of two coordinates, as the code compares them on 64 bits, and that the
-- bounds are the least rectangle that holds the points.
use Rattle.std.proofs.Common.{◌≡◌, ℕ, zero, suc, ℤ, List, [], ◌∷◌, fold, IfSome, arith, FitsSigned, w64, to_z, of_z, pos, ◌+ℤ◌, ◌-ℤ◌, ◌≤ℤ◌, ◌<◌, ◌^◌, ◌↔◌, IsTrue}
use Rattle.std.specs.Prelude.{int_le}
use Rattle.std.specs.List.{All}
use Rattle.std.specs.Int.{int_min, int_max, w128}
use Rattle.std.proofs.lemmas.Int.{ints, clamps, to_z-of_z}
use Rattle.poly_shapes.specs.declared.point.Bounds.{Bounds}
use Rattle.poly_shapes.specs.declared.point.Point.{Point}
use Rattle.poly_shapes.specs.Extent.{around, widened, bounds_of, Holds, LiesIn}
use Rattle.poly_shapes.proofs.Widths.{read}

pub int_min-read : (a b r : ℤ) → FitsSigned w64 a → FitsSigned w64 b → FitsSigned w64 r
    → r ≡ int_min (read a) (read b) → read r ≡ int_min a b
int_min-read a b r fa fb fr e = rw (to_z-of_z w64 r fr) (rw (to_z-of_z w64 a fa, to_z-of_z w64 b fb) at e)

pub int_max-read : (a b r : ℤ) → FitsSigned w64 a → FitsSigned w64 b → FitsSigned w64 r
    → r ≡ int_max (read a) (read b) → read r ≡ int_max a b
int_max-read a b r fa fb fr e = rw (to_z-of_z w64 r fr) (rw (to_z-of_z w64 a fa, to_z-of_z w64 b fb) at e)

-- rectangles with the same edges are the same
pub same_bounds : {l l' t t' r r' b b' : ℤ} → l ≡ l' → t ≡ t' → r ≡ r' → b ≡ b'
    → (let one : Bounds = record { l = l; t = t; r = r; b = b } in
    let other : Bounds = record { l = l'; t = t'; r = r'; b = b' } in one ≡ other)
same_bounds e f g h = cc

-- ---- the bounds are the least rectangle that holds the points

lies_in-same : (b : Bounds) → LiesIn b b
lies_in-same b = record {
  left = omega (arith, ints);
  right = omega (arith, ints);
  top = omega (arith, ints);
  bottom = omega (arith, ints);
}

lies_in-widened : (b : Bounds) (p : Point) → LiesIn b (widened b p)
lies_in-widened b p = record {
  left = omega (arith, ints, clamps);
  right = omega (arith, ints, clamps);
  top = omega (arith, ints, clamps);
  bottom = omega (arith, ints, clamps);
}

holds-widened : (b : Bounds) (p : Point) → Holds (widened b p) p.x p.y
holds-widened b p = record {
  left = omega (arith, ints, clamps);
  right = omega (arith, ints, clamps);
  top = omega (arith, ints, clamps);
  bottom = omega (arith, ints, clamps);
}

widened-lies_in : (b outer : Bounds) (p : Point) → LiesIn b outer → Holds outer p.x p.y → LiesIn (widened b p) outer
widened-lies_in b outer p within held = record {
  left = omega (arith, ints, clamps);
  right = omega (arith, ints, clamps);
  top = omega (arith, ints, clamps);
  bottom = omega (arith, ints, clamps);
}

lies_in-trans : (a b c : Bounds) → LiesIn a b → LiesIn b c → LiesIn a c
lies_in-trans a b c p q = record {
  left = omega (arith, ints);
  right = omega (arith, ints);
  top = omega (arith, ints);
  bottom = omega (arith, ints);
}

holds-within : (a b : Bounds) (x y : ℤ) → Holds a x y → LiesIn a b → Holds b x y
holds-within a b x y held within = record {
  left = omega (arith, ints);
  right = omega (arith, ints);
  top = omega (arith, ints);
  bottom = omega (arith, ints);
}

grows : (b : Bounds) (points : List Point) → LiesIn b (fold widened b points)
grows b [] = lies_in-same b
grows b (p ∷ points) =
    lies_in-trans b (widened b p) (fold widened (widened b p) points) (lies_in-widened b p) (grows (widened b p) points)

abbrev pub HoldsPoint : Bounds → Point → Type 0
HoldsPoint b p = Holds b p.x p.y

holds-each : (b : Bounds) (points : List Point) → All (HoldsPoint (fold widened b points)) points
holds-each b [] k d h = absurd (omega arith)
holds-each b (p ∷ points) zero d h =
    holds-within (widened b p) (fold widened (widened b p) points) p.x p.y (holds-widened b p) (grows (widened b p) points)
holds-each b (p ∷ points) (suc k) d h = holds-each (widened b p) points k d (omega arith)

is_least : (b outer : Bounds) (points : List Point) → LiesIn b outer → All (HoldsPoint outer) points
    → LiesIn (fold widened b points) outer
is_least b outer [] within held = within
is_least b outer (p ∷ points) within held =
    is_least (widened b p) outer points
    (widened-lies_in b outer p within (held 0 p (omega arith)))
    (λ k d h. held (suc k) d (omega arith))

around-lies_in : (p : Point) (outer : Bounds) → Holds outer p.x p.y → LiesIn (around p) outer
around-lies_in p outer held = record { left = held.left; right = held.right; top = held.top; bottom = held.bottom }

around-holds : (p : Point) → Holds (around p) p.x p.y
around-holds p = record {
  left = omega (arith, ints);
  right = omega (arith, ints);
  top = omega (arith, ints);
  bottom = omega (arith, ints);
}

pub bounds_of-holds : (points : List Point) → IfSome (bounds_of points) (λ b. All (HoldsPoint b) points)
bounds_of-holds [] = tt
bounds_of-holds (p ∷ points) = holds_all
  where
    holds_all : All (HoldsPoint (fold widened (around p) points)) (p ∷ points)
    holds_all zero d h = holds-within (around p) (fold widened (around p) points) p.x p.y (around-holds p) (grows (around p) points)
    holds_all (suc k) d h = holds-each (around p) points k d (omega arith)

pub bounds_of-least : (points : List Point)
    → IfSome (bounds_of points) (λ b. (outer : Bounds) → All (HoldsPoint outer) points → LiesIn b outer)
bounds_of-least [] = tt
bounds_of-least (p ∷ points) = λ outer held.
    is_least (around p) outer points (around-lies_in p outer (held 0 p (omega arith))) (λ k d h. held (suc k) d (omega arith))

-- ---- a side moved out by a width, as the code tests it on 128 bits

abbrev read_wide : ℤ → ℤ
read_wide z = to_z w128 (of_z w128 z)

int_le-iff : (p q : ℤ) → IsTrue (int_le p q) ↔ p ≤ℤ q
int_le-iff p q = grind (arith, ints)

pub not_before-read : (least at a b d : ℤ) (width : ℕ) → FitsSigned w64 least → FitsSigned w64 at → width < 2 ^ 64
    → a ≡ read least → b ≡ pos width → d ≡ read at
    → IsTrue (int_le (read_wide (read_wide a -ℤ read_wide b)) (read_wide d)) ↔ ((least -ℤ pos width) ≤ℤ at)
not_before-read least at a b d width fl fa fits ea eb ed =
    let side : read_wide (read_wide a -ℤ read_wide b) ≡ least -ℤ pos width = omega (arith, ints) in
    let place : read_wide d ≡ at = omega (arith, ints) in
    rw (side, place) (int_le-iff (least -ℤ pos width) at)

pub not_beyond-read : (most at a b d : ℤ) (width : ℕ) → FitsSigned w64 most → FitsSigned w64 at → width < 2 ^ 64
    → a ≡ read most → b ≡ pos width → d ≡ read at
    → IsTrue (int_le (read_wide d) (read_wide (read_wide a +ℤ read_wide b))) ↔ (at ≤ℤ (most +ℤ pos width))
not_beyond-read most at a b d width fm fa fits ea eb ed =
    let side : read_wide (read_wide a +ℤ read_wide b) ≡ most +ℤ pos width = omega (arith, ints) in
    let place : read_wide d ≡ at = omega (arith, ints) in
    rw (side, place) (int_le-iff at (most +ℤ pos width))
