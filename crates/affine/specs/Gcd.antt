use Rattle.std.proofs.Common.{ℕ, zero, suc, ◌%◌, ◌≤◌, arith, refl}
use Rattle.std.specs.Int.{IsGcd}
use Rattle.std.proofs.lemmas.Nat.Gcd.{IsGcd-from_zero, IsGcd-from_mod}

-- Euclid's algorithm, where the second number is at most the number of steps
abbrev pub gcd_within : ℕ → ℕ → ℕ → ℕ
gcd_within zero a b = a
gcd_within (suc steps) a zero = a
gcd_within (suc steps) a (suc b) = gcd_within steps (suc b) (a % suc b)

-- the greatest common divisor, and 0 for two zeros
unfoldable pub gcd : ℕ → ℕ → ℕ
gcd a b = gcd_within b a b

IsGcd-gcd_within : (steps a b : ℕ) → b ≤ steps → IsGcd a b (gcd_within steps a b)
IsGcd-gcd_within zero a b h = IsGcd-from_zero a b (omega arith)
IsGcd-gcd_within (suc steps) a zero h = IsGcd-from_zero a zero refl
IsGcd-gcd_within (suc steps) a (suc b) h =
    IsGcd-from_mod a (suc b) (gcd_within steps (suc b) (a % suc b)) (IsGcd-gcd_within steps (suc b) (a % suc b) (omega arith))

-- it is what its name says: it divides both, and whatever divides both divides it
pub IsGcd-gcd : (a b : ℕ) → IsGcd a b (gcd a b)
unfolding gcd
IsGcd-gcd a b = IsGcd-gcd_within b a b (omega arith)
