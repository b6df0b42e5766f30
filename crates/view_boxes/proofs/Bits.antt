-- What the code computes on 128 bits, without its casts, in lemmas over plain numbers.
use Rattle.std.proofs.Common.{◌≡◌, ◌^◌, ◌≤◌, ℤ, pos, ◌<ℤ◌, ◌+ℤ◌, ◌*ℤ◌, FitsSigned, arith}
use Rattle.std.specs.Prelude.{unsigned_abs}
use Rattle.std.specs.Int.{w128}
use Rattle.std.proofs.lemmas.Int.{ints}
use Rattle.affine.proofs.Bits.{read}

-- 128 z, for what is over the product of two sides
pub part-fits : (z : ℤ) → unsigned_abs z ≤ 2 ^ 58 → FitsSigned w128 (pos 128 *ℤ read z)
part-fits z h = omega (arith, ints)

pub part-read : (z : ℤ) → unsigned_abs z ≤ 2 ^ 58 → read (pos 128 *ℤ read z) ≡ pos 128 *ℤ z
part-read z h = omega (arith, ints)

pub part-size : (z : ℤ) → unsigned_abs z ≤ 2 ^ 58 → unsigned_abs (read (pos 128 *ℤ read z)) ≤ 2 ^ 120
part-size z h = omega (arith, ints)

pub part-positive : (z : ℤ) → unsigned_abs z ≤ 2 ^ 58 → pos 0 <ℤ z → pos 0 <ℤ read (pos 128 *ℤ read z)
part-positive z h some = omega (arith, ints)

-- 2 z + s, for a translation and a share
pub doubled-fits : (z : ℤ) → unsigned_abs z ≤ 2 ^ 91 → FitsSigned w128 (pos 2 *ℤ read z)
doubled-fits z h = omega (arith, ints)

pub doubled_sum-fits :
    (z s : ℤ) → unsigned_abs z ≤ 2 ^ 91 → unsigned_abs s ≤ 2 ^ 92 → FitsSigned w128 (read (pos 2 *ℤ read z) +ℤ read s)
doubled_sum-fits z s h k = omega (arith, ints)

pub doubled_sum-read :
    (z s : ℤ) → unsigned_abs z ≤ 2 ^ 91 → unsigned_abs s ≤ 2 ^ 92 → read (read (pos 2 *ℤ read z) +ℤ read s) ≡ pos 2 *ℤ z +ℤ s
doubled_sum-read z s h k = omega (arith, ints)

pub doubled_sum-size :
    (z s : ℤ) → unsigned_abs z ≤ 2 ^ 91 → unsigned_abs s ≤ 2 ^ 92 →
    unsigned_abs (read (read (pos 2 *ℤ read z) +ℤ read s)) ≤ 2 ^ 94
doubled_sum-size z s h k = omega (arith, ints)
