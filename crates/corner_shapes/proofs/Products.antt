use Rattle.std.proofs.Common.{ℕ, ◌*◌, ◌^◌, ◌≤◌}
use Rattle.std.proofs.Math.Nat.{mul-le-mul}
use Rattle.corner_shapes.specs.Curve.{square}

-- the square of a product of two lengths up to 2^28 leaves room in 128 bits
pub square_of_product : (a b : ℕ) → a ≤ 2 ^ 28 → b ≤ 2 ^ 28 → square (a * b) ≤ 2 ^ 112
square_of_product a b p q = let h : a * b ≤ 2 ^ 56 = mul-le-mul p q in mul-le-mul h h
