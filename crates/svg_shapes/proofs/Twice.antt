-- Fine units as half fine units.
use Rattle.std.proofs.Common.{◌≡◌, ◌^◌, ◌<◌, ℤ, pos, ◌+ℤ◌, ◌<ℤ◌, FitsSigned, unsigned_abs, arith}
use mir.Syntax.{w128}
use borrow.Author.Differences.{same_in, sum_is_lem, product_is}
use Rattle.std.proofs.lemmas.Int.{ints, fits_signed_from_abs}
use Rattle.svg_shapes.specs.Measures.{twice}

pub twice-sum : (z : ℤ) → twice z ≡ z +ℤ z
twice-sum z = omega (arith, same_in, sum_is_lem, product_is)

-- a point in half fine units has room in 128 bits
pub twice-fits : (z : ℤ) → unsigned_abs z < 2 ^ 123 → FitsSigned w128 (twice z)
twice-fits z small =
    let room : unsigned_abs (z +ℤ z) < 2 ^ 127 = omega (arith, ints) in
    fits_signed_from_abs w128 (twice z) (rw (twice-sum z) room)

pub positive-twice : (z : ℤ) → pos 0 <ℤ z → pos 0 <ℤ twice z
positive-twice z h = let p = twice-sum z in omega (arith, ints)

pub positive-half : (z : ℤ) → pos 0 <ℤ twice z → pos 0 <ℤ z
positive-half z h = let p = twice-sum z in omega (arith, ints)

pub size-positive : (z : ℤ) → pos 0 <ℤ z → 0 < unsigned_abs z
size-positive z h = omega (arith, ints)
