-- Numbers within the limits fit 64 bits.
use Rattle.std.proofs.Common.{◌≡◌, ◌^◌, ◌<◌, ℤ, pos, negsuc, arith, w64}
use Rattle.std.specs.Prelude.{unsigned_abs}
use Rattle.std.proofs.lemmas.Int.{to_z-of_z, fits_signed_from_abs, ints}
use Rattle.box_tree.specs.Contents.{IsWithin}
use mir.Val.{to_z, of_z}

small : (x : ℤ) → IsWithin 26 x → unsigned_abs x < 2 ^ 63
small (pos n) within = omega (arith, ints, within.0, within.1)
small (negsuc n) within = omega (arith, ints, within.0, within.1)

-- a coordinate is read back from its bits
pub coordinate_kept : (x : ℤ) → IsWithin 26 x → to_z w64 (of_z w64 x) ≡ x
coordinate_kept x within = to_z-of_z w64 x (fits_signed_from_abs w64 x (small x within))
