-- How wide products and differences get, and what code computes of them. Widths are bounds on absolute values.
use Rattle.std.proofs.Common.{ℕ, to_z, of_z, ◌+◌, ◌*◌, ◌^◌, ◌<◌, ◌≤◌, ℤ, ◌+ℤ◌, ◌-ℤ◌, ◌*ℤ◌, ◌≡◌, arith}
use mir.Syntax.{Width}
use mir.Val.{hbits}
use Rattle.std.specs.Prelude.{unsigned_abs, FitsSigned}
use Rattle.std.proofs.lemmas.Int.{ints, to_z-of_z, unsigned_abs-mul, fits_signed_mul}
use Rattle.std.proofs.lemmas.Nat.{mul-le}

-- where |a| is at most m and |b| at most n, |a b| is at most m n
pub width-mul : (a b : ℤ) (m n : ℕ) → unsigned_abs a ≤ m → unsigned_abs b ≤ n → unsigned_abs (a *ℤ b) ≤ m * n
width-mul a b m n p q = rw (unsigned_abs-mul a b) (mul-le (unsigned_abs a) (unsigned_abs b) m n p q)

-- and |a + b| and |a - b| are at most m + n
pub width-add : (a b : ℤ) (m n : ℕ) → unsigned_abs a ≤ m → unsigned_abs b ≤ n → unsigned_abs (a +ℤ b) ≤ m + n
width-add a b m n p q = omega (arith, ints)

pub width-sub : (a b : ℤ) (m n : ℕ) → unsigned_abs a ≤ m → unsigned_abs b ≤ n → unsigned_abs (a -ℤ b) ≤ m + n
width-sub a b m n p q = omega (arith, ints)

-- the code's a * b, where it is narrow enough
pub product-from_bits :
    (w : Width) (a b : ℤ) (m n : ℕ) → FitsSigned w a → FitsSigned w b → unsigned_abs a ≤ m → unsigned_abs b ≤ n → m * n < 2 ^ hbits w →
    to_z w (of_z w (to_z w (of_z w a) *ℤ to_z w (of_z w b))) ≡ a *ℤ b
product-from_bits w a b m n fa fb p q small =
    rw (to_z-of_z w a fa, to_z-of_z w b fb) (to_z-of_z w (a *ℤ b) (fits_signed_mul w a b m n p q small))
