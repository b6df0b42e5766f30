use Rattle.std.proofs.Common.{◌^◌, ◌≤◌, ◌≡◌, to_z, of_z, ℤ, pos, negsuc, ◌+ℤ◌, ◌-ℤ◌, ◌*ℤ◌, ◌<ℤ◌, ◌≤ℤ◌, neg_ℤ, arith, ap, ◌∙◌}
use Rattle.std.proofs.Math.IntN.{+ℤ_one, -ℤ_one, suc_ℤ-*ℤ, pred_ℤ-*ℤ}
use Rattle.std.specs.Prelude.{unsigned_abs}
use Rattle.std.specs.Int.{w128, int_div_euclid}
use Rattle.std.proofs.lemmas.Int.{ints}
use Rattle.fractions.specs.Division.{IsFloor, IsCeiling}
use Rattle.whole_numbers.proofs.Products.{neg-mul, mul-neg}

-- the code's -z
pub negated : (z : ℤ) → unsigned_abs z ≤ 2 ^ 126 → to_z w128 (of_z w128 (pos 0 -ℤ to_z w128 (of_z w128 z))) ≡ neg_ℤ z
negated z small = omega (arith, ints)

-- the product by the next number and by the previous one
pub next-mul : (k d : ℤ) → (k +ℤ pos 1) *ℤ d ≡ k *ℤ d +ℤ d
next-mul k d = ap (λ s. s *ℤ d) (+ℤ_one k) ∙ suc_ℤ-*ℤ k d

pub previous-mul : (k d : ℤ) → (k -ℤ pos 1) *ℤ d ≡ k *ℤ d -ℤ d
previous-mul k d = ap (λ s. s *ℤ d) (-ℤ_one k) ∙ pred_ℤ-*ℤ k d

-- by a positive divisor, the quotient with a remainder that isn't negative is the quotient rounded down
pub div_euclid-at_most : (n d : ℤ) → pos 0 <ℤ d → (int_div_euclid n d *ℤ d) ≤ℤ n
div_euclid-at_most (pos a) (pos b) h = omega (arith, ints)
div_euclid-at_most (negsuc a) (pos b) h = omega (arith, ints)
div_euclid-at_most n (negsuc b) h = absurd (omega (arith, ints))

pub div_euclid-above : (n d : ℤ) → pos 0 <ℤ d → n <ℤ (int_div_euclid n d *ℤ d +ℤ d)
div_euclid-above (pos a) (pos b) h = omega (arith, ints)
div_euclid-above (negsuc a) (pos b) h = omega (arith, ints)
div_euclid-above n (negsuc b) h = absurd (omega (arith, ints))

-- the two inequalities of a floor over a positive divisor
pub IsFloor-over_positive : (n d k : ℤ) → pos 0 <ℤ d → (k *ℤ d) ≤ℤ n → n <ℤ ((k +ℤ pos 1) *ℤ d) → IsFloor n d k
IsFloor-over_positive n d k h low high = record {
  at_most = λ _. low;
  next_above = λ _. high;
  at_most_turned = λ negative. absurd (omega (arith, ints));
  next_above_turned = λ negative. absurd (omega (arith, ints));
}

-- n / d is -n / -d, so both have one floor
pub IsFloor-negated : (n d k : ℤ) → IsFloor (neg_ℤ n) (neg_ℤ d) k → IsFloor n d k
IsFloor-negated n d k floor =
    let low = mul-neg k d in
    let high = mul-neg (k +ℤ pos 1) d in
    record {
      at_most = λ h. omega (arith, ints, low, floor.at_most_turned (omega (arith, ints)));
      next_above = λ h. omega (arith, ints, high, floor.next_above_turned (omega (arith, ints)));
      at_most_turned = λ h. omega (arith, ints, low, floor.at_most (omega (arith, ints)));
      next_above_turned = λ h. omega (arith, ints, high, floor.next_above (omega (arith, ints)));
    }

-- n / d rounded up is the negation of -n / d rounded down
pub IsCeiling-negated : (n d k : ℤ) → IsFloor (neg_ℤ n) d k → IsCeiling n d (neg_ℤ k)
IsCeiling-negated n d k floor =
    let at = neg-mul k d in
    let before = previous-mul (neg_ℤ k) d in
    let after = next-mul k d in
    record {
      at_least = λ h. omega (arith, ints, at, floor.at_most h);
      previous_below = λ h. omega (arith, ints, at, before, after, floor.next_above h);
      at_least_turned = λ h. omega (arith, ints, at, floor.at_most_turned h);
      previous_below_turned = λ h. omega (arith, ints, at, before, after, floor.next_above_turned h);
    }
