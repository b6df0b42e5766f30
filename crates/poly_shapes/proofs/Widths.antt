-- How wide products and differences get, and what the code computes of them on 64 bits. Widths are bounds on absolute
-- values.
use Rattle.std.proofs.Common.{ℕ, to_z, of_z, ◌+◌, ◌*◌, ◌^◌, ◌<◌, ◌≤◌, ℤ, ◌+ℤ◌, ◌-ℤ◌, ◌*ℤ◌, ◌≡◌, refl, arith, w64, pos, true, ◌&&◌}
use Rattle.std.specs.Prelude.{unsigned_abs, FitsSigned, int_lt}
use Rattle.std.proofs.lemmas.Int.{ints, to_z-of_z, unsigned_abs-mul, fits_signed_mul}
use Rattle.std.proofs.lemmas.Nat.{mul-le}
use Rattle.poly_shapes.specs.Segments.{distance}
use Rattle.poly_shapes.specs.Stroke.{is_within_half}

-- a number as it is read back from its bits
abbrev pub read : ℤ → ℤ
read z = to_z w64 (of_z w64 z)

-- differences of coordinates
pub difference-read : (a b : ℤ) → unsigned_abs a ≤ 2 ^ 28 → unsigned_abs b ≤ 2 ^ 28 → read (read a -ℤ read b) ≡ a -ℤ b
difference-read a b p q = omega (arith, ints)

pub near-read : (a : ℤ) → unsigned_abs a ≤ 2 ^ 28 → read a ≡ a
near-read a p = omega (arith, ints)

-- what a call answers that was passed two coordinates, and answers how far they are apart
pub distance-read : (a b : ℤ) (n : ℕ) → unsigned_abs a ≤ 2 ^ 28 → unsigned_abs b ≤ 2 ^ 28
    → n ≡ distance (read a) (read b) → n ≡ distance a b
distance-read a b n p q e = rw (near-read a p, near-read b q) at e

-- what a call answers that was passed two differences, and answers their product
pub product_of_differences : (a b c d r : ℤ)
    → unsigned_abs a ≤ 2 ^ 28 → unsigned_abs b ≤ 2 ^ 28 → unsigned_abs c ≤ 2 ^ 28 → unsigned_abs d ≤ 2 ^ 28
    → r ≡ read (read a -ℤ read b) *ℤ read (read c -ℤ read d) → r ≡ (a -ℤ b) *ℤ (c -ℤ d)
product_of_differences a b c d r na nb nc nd e = rw (difference-read a b na nb, difference-read c d nc nd) at e

-- the sum and the difference of two such products
pub sum-read : (s t : ℤ) → unsigned_abs s ≤ 2 ^ 60 → unsigned_abs t ≤ 2 ^ 60 → read (read s +ℤ read t) ≡ s +ℤ t
sum-read s t p q = omega (arith, ints)

pub difference_of_products : (s t : ℤ) → unsigned_abs s ≤ 2 ^ 60 → unsigned_abs t ≤ 2 ^ 60 → read (read s -ℤ read t) ≡ s -ℤ t
difference_of_products s t p q = omega (arith, ints)

-- the test of a point beyond an end, as the code makes it
pub just_beyond-read : (width length offset : ℕ) (t : ℤ) → length ≤ 2 ^ 55 → unsigned_abs t ≤ 2 ^ 57
    → int_lt (to_z w64 length) (read t) ≡ true → offset ≡ unsigned_abs (read (read t -ℤ to_z w64 length))
    → is_within_half width length offset ≡ (int_lt (pos length) t && is_within_half width length (unsigned_abs (t -ℤ pos length)))
just_beyond-read width length offset t small narrow beyond apart =
    let end : to_z w64 length ≡ pos length = omega (arith, ints) in
    let there : read t ≡ t = omega (arith, ints) in
    let apart_by : read (read t -ℤ to_z w64 length) ≡ t -ℤ pos length = omega (arith, ints) in
    let is_beyond = rw (end, there) at beyond in
    let offset_is = rw apart_by at apart in
    rw (is_beyond, offset_is) refl
