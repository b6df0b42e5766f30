use Rattle.std.proofs.Common.{ℕ, zero, suc, ◌*◌, ◌<◌, ◌≤◌, ◌≡◌, ℤ, pos, negsuc, ◌*ℤ◌, ◌<ℤ◌, ◌≤ℤ◌, neg_ℤ, arith, ap, ◌∙◌, sym, subst}
use Prim.Native.Nat.{◌∣◌}
use Rattle.std.proofs.Math.Nat.{one-dvd, mul-dvd-mul_right, dvd_of_mul-dvd-mul_right, mod-eq-zero_of_dvd, pos_of_dvd_of_pos, mul-le-mul_left}
use Rattle.std.proofs.Math.IntN.{*ℤ_comm}
use Rattle.std.specs.Prelude.{unsigned_abs, int_div, int_rem}
use Rattle.std.specs.Int.{IsGcd}
use Rattle.std.proofs.lemmas.Int.{ints, unsigned_abs-mul, quot-rem}
use Rattle.fractions.specs.Fraction.{Fraction, IsReduced, IsQuotient}
use Rattle.whole_numbers.proofs.Products.{mul_assoc}

-- what two numbers are times their greatest common divisor has no common divisor but 1
pub IsGcd-cancel : (a b g : ℕ) → 0 < g → IsGcd (a * g) (b * g) g → IsGcd a b 1
IsGcd-cancel a b g some h = (
  one-dvd a,
  one-dvd b,
  λ k p q.
      let common : k * g ∣ 1 * g = subst (λ m. k * g ∣ m) (omega arith) (h.2 (k * g) (mul-dvd-mul_right k p g) (mul-dvd-mul_right k q g)) in
      dvd_of_mul-dvd-mul_right k some common,
)

-- a factor of a positive number beside a positive factor is positive
pub positive_factor : (k b d : ℤ) → k *ℤ b ≡ d → pos 0 <ℤ b → pos 0 <ℤ d → pos 0 <ℤ k
positive_factor (pos zero) b d e hb hd = absurd (omega (arith, ints, e))
positive_factor (pos (suc k)) b d e hb hd = omega (arith, ints)
positive_factor (negsuc k) (pos b) d e hb hd = absurd (omega (arith, ints, e))
positive_factor (negsuc k) (negsuc b) d e hb hd = absurd (omega (arith, ints))

-- two numbers divided by one number are the same fraction
pub IsQuotient-cancel : (f : Fraction) (n d by : ℤ) → f.num *ℤ by ≡ n → f.den *ℤ by ≡ d → IsQuotient f n d
IsQuotient-cancel f n d by en ed =
    ap (λ s. f.num *ℤ s) (sym ed)
    ∙ sym (mul_assoc f.num by f.den ∙ ap (λ s. f.num *ℤ s) (*ℤ_comm by f.den))
    ∙ ap (λ s. s *ℤ f.den) en

-- a factor of a product is no larger in size than the product, where the other factor isn't 0
pub factor-size : (k b d : ℤ) → k *ℤ b ≡ d → pos 0 <ℤ b → unsigned_abs k ≤ unsigned_abs d
factor-size k b d e h =
    let sizes = unsigned_abs-mul k b in
    let some : 1 ≤ unsigned_abs b = omega (arith, ints) in
    omega (arith, ap unsigned_abs e, sizes, mul-le-mul_left (unsigned_abs k) some)

-- the greatest common divisor of a positive number and another is positive
pub gcd_positive : (n d g : ℤ) → pos 0 <ℤ d → pos 0 ≤ℤ g → IsGcd (unsigned_abs n) (unsigned_abs d) (unsigned_abs g) → pos 0 <ℤ g
gcd_positive n d g hd hg greatest =
    let some : 0 < unsigned_abs g = pos_of_dvd_of_pos greatest.1 (omega (arith, ints)) in
    omega (arith, ints)

int_rem-exact : (n by : ℤ) → unsigned_abs by ∣ unsigned_abs n → int_rem n by ≡ pos 0
int_rem-exact (pos a) by h = ap pos (mod-eq-zero_of_dvd (unsigned_abs by) h)
int_rem-exact (negsuc a) by h = ap (λ r. neg_ℤ (pos r)) (mod-eq-zero_of_dvd (unsigned_abs by) h)

-- the quotient of a number by a divisor of it leaves no remainder
pub int_div-exact : (n by : ℤ) → unsigned_abs by ∣ unsigned_abs n → int_div n by *ℤ by ≡ n
int_div-exact n by h =
    let none : int_rem n by ≡ pos 0 = int_rem-exact n by h in
    let split = quot-rem n by in
    omega (arith, ints, none, split)

-- f is n / d in lowest terms, and no wider
pub record Reduces (f : Fraction) (n d : ℤ) : Type 0 where
  pub value : IsQuotient f n d
  pub reduced : IsReduced f
  pub num_size : unsigned_abs f.num ≤ unsigned_abs n
  pub den_size : unsigned_abs f.den ≤ unsigned_abs d

-- so is what is left where both numbers are divided by their greatest common divisor
pub Reduces-cancel :
    (f : Fraction) (n d g : ℤ) → f.num *ℤ g ≡ n → f.den *ℤ g ≡ d → pos 0 <ℤ d → pos 0 <ℤ g →
    IsGcd (unsigned_abs n) (unsigned_abs d) (unsigned_abs g) → Reduces f n d
Reduces-cancel f n d g en ed hd hg greatest =
    let num = sym (ap unsigned_abs en) ∙ unsigned_abs-mul f.num g in
    let den = sym (ap unsigned_abs ed) ∙ unsigned_abs-mul f.den g in
    record {
      value = IsQuotient-cancel f n d g en ed;
      reduced = record {
        positive = positive_factor f.den g d ed hg hd;
        coprime = IsGcd-cancel (unsigned_abs f.num) (unsigned_abs f.den) (unsigned_abs g) (omega (arith, ints)) (rw (num, den) at greatest);
      };
      num_size = factor-size f.num g n en hg;
      den_size = factor-size f.den g d ed hg;
    }
