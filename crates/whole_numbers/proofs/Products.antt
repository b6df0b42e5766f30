-- Products of whole numbers: their laws, their signs and their order.
use Rattle.std.proofs.Common.{◌+◌, ◌*◌, ◌≡◌, ℤ, ◌+ℤ◌, ◌-ℤ◌, ◌*ℤ◌, neg_ℤ, zero, suc, pos, negsuc, ◌<ℤ◌, ◌≤ℤ◌, arith, refl, ap, ◌∙◌, sym}
use borrow.Author.Differences.{up, down, same_in, sum_is_lem, neg_is, product_is, le_out, lt_out}
use Rattle.std.proofs.Math.Nat.{mul-le-mul_right}
use Rattle.std.proofs.lemmas.Int.{ints, by_lt_z}
use Rattle.std.proofs.Math.IntN.{*ℤ_comm, zero-*ℤ}

-- the two parts of a product, of which the number is the difference
up-mul : (a b : ℤ) → up (a *ℤ b) ≡ up a * up b + down a * down b
up-mul a b = (product_is a b).0

down-mul : (a b : ℤ) → down (a *ℤ b) ≡ up a * down b + down a * up b
down-mul a b = (product_is a b).1

up-neg : (a : ℤ) → up (neg_ℤ a) ≡ down a
up-neg a = (neg_is a).0

down-neg : (a : ℤ) → down (neg_ℤ a) ≡ up a
down-neg a = (neg_is a).1

pub mul_assoc : (a b c : ℤ) → a *ℤ b *ℤ c ≡ a *ℤ (b *ℤ c)
mul_assoc a b c = same_in (a *ℤ b *ℤ c) (a *ℤ (b *ℤ c)) (simp (up-mul, down-mul) (omega arith))

pub neg-mul : (a b : ℤ) → neg_ℤ a *ℤ b ≡ neg_ℤ (a *ℤ b)
neg-mul a b = same_in (neg_ℤ a *ℤ b) (neg_ℤ (a *ℤ b)) (simp (up-neg, down-neg, up-mul, down-mul) (omega arith))

pub mul-neg : (a b : ℤ) → a *ℤ neg_ℤ b ≡ neg_ℤ (a *ℤ b)
mul-neg a b = *ℤ_comm a (neg_ℤ b) ∙ neg-mul b a ∙ ap neg_ℤ (*ℤ_comm b a)

-- sums and differences of factors
pub add-mul : (a b c : ℤ) → (a +ℤ b) *ℤ c ≡ a *ℤ c +ℤ b *ℤ c
add-mul a b c =
    let parts = sum_is_lem a b in
    let above : (up (a +ℤ b) + down a + down b) * up c ≡ (down (a +ℤ b) + up a + up b) * up c = rw parts refl in
    let below : (up (a +ℤ b) + down a + down b) * down c ≡ (down (a +ℤ b) + up a + up b) * down c = rw parts refl in
    omega (arith, same_in, sum_is_lem, product_is)

pub mul-add : (a b c : ℤ) → a *ℤ (b +ℤ c) ≡ a *ℤ b +ℤ a *ℤ c
mul-add a b c = *ℤ_comm a (b +ℤ c) ∙ add-mul b c a ∙ rw (*ℤ_comm b a, *ℤ_comm c a) refl

pub sub-mul : (a b c : ℤ) → (a -ℤ b) *ℤ c ≡ a *ℤ c -ℤ b *ℤ c
sub-mul a b c = add-mul a (neg_ℤ b) c ∙ ap (λ s. a *ℤ c +ℤ s) (neg-mul b c)

pub mul-sub : (a b c : ℤ) → a *ℤ (b -ℤ c) ≡ a *ℤ b -ℤ a *ℤ c
mul-sub a b c = mul-add a b (neg_ℤ c) ∙ ap (λ s. a *ℤ b +ℤ s) (mul-neg a c)

pub differences-mul : (p q r s : ℤ) → (p -ℤ q) *ℤ (r -ℤ s) ≡ (p *ℤ r -ℤ p *ℤ s) -ℤ (q *ℤ r -ℤ q *ℤ s)
differences-mul p q r s = sub-mul p q (r -ℤ s) ∙ rw (mul-sub p r s, mul-sub q r s) refl

-- a difference the other way round
pub neg_difference-mul : (a b c : ℤ) → (a -ℤ b) *ℤ c ≡ pos 0 -ℤ (b -ℤ a) *ℤ c
neg_difference-mul a b c = let there = sub-mul a b c in let back = sub-mul b a c in omega (arith, ints)

-- the last two of three factors change places, and the first two
pub mul_right_comm : (a b c : ℤ) → a *ℤ b *ℤ c ≡ a *ℤ c *ℤ b
mul_right_comm a b c = mul_assoc a b c ∙ ap (λ s. a *ℤ s) (*ℤ_comm b c) ∙ sym (mul_assoc a c b)

pub mul_left_comm : (a b c : ℤ) → a *ℤ (b *ℤ c) ≡ b *ℤ (a *ℤ c)
mul_left_comm a b c = sym (mul_assoc a b c) ∙ ap (λ s. s *ℤ c) (*ℤ_comm a b) ∙ mul_assoc b a c

-- products by a number that isn't below 0 keep the order, and by a positive one the strict order
pub le-mul : (p q w : ℤ) → pos 0 ≤ℤ w → p ≤ℤ q → (p *ℤ w) ≤ℤ (q *ℤ w)
le-mul p q (pos w) not_below h = omega (arith, ints, mul-le-mul_right w (le_out p q h))
le-mul p q (negsuc w) not_below h = absurd (omega (arith, ints))

pub lt-mul : (p q w : ℤ) → pos 0 <ℤ w → p <ℤ q → (p *ℤ w) <ℤ (q *ℤ w)
lt-mul p q (pos zero) positive h = absurd (omega (arith, ints))
lt-mul p q (pos (suc w)) positive h = omega (arith, ints, mul-le-mul_right (suc w) (lt_out p q h))
lt-mul p q (negsuc w) positive h = absurd (omega (arith, ints))

pub at_least_zero : (z : ℤ) → pos 0 <ℤ z → pos 0 ≤ℤ z
at_least_zero z h = omega (arith, ints)

-- a positive factor may be left out of both sides of an order
pub le-cancel : (j l w : ℤ) → pos 0 <ℤ w → (j *ℤ w) ≤ℤ (l *ℤ w) → j ≤ℤ l
le-cancel j l w positive h = by_lt_z l j (λ lt. absurd (omega (arith, ints, h, lt-mul l j w positive lt))) (λ le. le)

pub lt-cancel : (j l w : ℤ) → pos 0 <ℤ w → (j *ℤ w) <ℤ (l *ℤ w) → j <ℤ l
lt-cancel j l w positive h = by_lt_z j l (λ lt. lt) (λ le. absurd (omega (arith, ints, h, le-mul l j w (at_least_zero w positive) le)))

-- the sign of a product with a positive number
pub mul-positive : (a b : ℤ) → pos 0 <ℤ a → pos 0 <ℤ b → pos 0 <ℤ (a *ℤ b)
mul-positive a b p q = rw (zero-*ℤ b) at (lt-mul (pos 0) a b q p)

pub mul-not_above : (z d : ℤ) → pos 0 <ℤ d → z ≤ℤ pos 0 → (z *ℤ d) ≤ℤ pos 0
mul-not_above z d p q = rw (zero-*ℤ d) at (le-mul z (pos 0) d (omega (arith, ints)) q)
