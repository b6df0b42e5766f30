use Rattle.std.specs.Prelude.{◌≡◌, ℕ, ◌≤◌, ℤ, pos, ◌*ℤ◌, ◌<ℤ◌, unsigned_abs}
use Rattle.std.specs.Int.{IsGcd}

-- a whole number over a whole number
pub record Fraction : Type 0 where
  pub num : ℤ
  pub den : ℤ

-- the denominator is positive, and 1 is the greatest number that divides both
pub record IsReduced (f : Fraction) : Type 0 where
  pub positive : pos 0 <ℤ f.den
  pub coprime : IsGcd (unsigned_abs f.num) (unsigned_abs f.den) 1

-- the fraction is n / d: both are the same when multiplied crosswise
abbrev pub IsQuotient : Fraction → ℤ → ℤ → Type 0
IsQuotient f n d = f.num *ℤ d ≡ n *ℤ f.den

-- the one fraction is less than the other, where both denominators are positive
abbrev pub IsLess : Fraction → Fraction → Type 0
IsLess f g = (f.num *ℤ g.den) <ℤ (g.num *ℤ f.den)

-- both fractions are one number
abbrev pub IsSame : Fraction → Fraction → Type 0
IsSame f g = f.num *ℤ g.den ≡ g.num *ℤ f.den

-- neither number of the fraction is larger in size than the bound
pub record IsWithin (f : Fraction) (bound : ℕ) : Type 0 where
  pub num : unsigned_abs f.num ≤ bound
  pub den : unsigned_abs f.den ≤ bound
