-- The floor as a function, how large it is, and that its two inequalities leave no other number.
use Rattle.std.proofs.Common.{ℕ, zero, suc, ◌≡◌, ◌≢◌, ◌≤◌, ℤ, pos, negsuc, ◌+ℤ◌, ◌*ℤ◌, ◌<ℤ◌, neg_ℤ, arith, refl, div-le_self}
use Rattle.std.proofs.Math.IntN.{*ℤ-negsuc}
use Rattle.std.specs.Prelude.{Some, unsigned_abs}
use Rattle.std.specs.Int.{int_div_euclid}
use Rattle.std.proofs.lemmas.Int.{ints}
use Rattle.whole_numbers.proofs.Products.{lt-cancel}
use Rattle.fractions.specs.Division.{IsFloor}
use Rattle.fractions.proofs.DivisionLemmas.{IsFloor-over_positive, IsFloor-negated, div_euclid-at_most, div_euclid-above, next-mul}
use Rattle.affine.specs.Point.{floor_of, rounded_down}

floor_by_positive : (n d : ℤ) → pos 0 <ℤ d → IsFloor n d (int_div_euclid n d)
floor_by_positive n d h =
    IsFloor-over_positive n d (int_div_euclid n d) h (div_euclid-at_most n d h)
    (rw (next-mul (int_div_euclid n d) d) (div_euclid-above n d h))

-- the function gives the floor
pub IsFloor-floor_of : (n d : ℤ) → d ≢ pos 0 → IsFloor n d (floor_of n d)
IsFloor-floor_of n (pos zero) h = absurd (h refl)
IsFloor-floor_of n (pos (suc d)) h = floor_by_positive n (pos (suc d)) (omega (arith, ints))
IsFloor-floor_of n (negsuc d) h =
    IsFloor-negated n (negsuc d) (floor_of n (negsuc d)) (floor_by_positive (neg_ℤ n) (pos (suc d)) (omega (arith, ints)))

-- and it is no larger in size than what is divided
div_euclid-size : (n : ℤ) (d : ℕ) → unsigned_abs (int_div_euclid n (pos d)) ≤ unsigned_abs n
div_euclid-size (pos a) d = div-le_self a d
div_euclid-size (negsuc a) d = omega (arith, div-le_self a d)

pub floor_of-size : (n d : ℤ) → unsigned_abs (floor_of n d) ≤ unsigned_abs n
floor_of-size n (pos d) = div_euclid-size n d
floor_of-size n (negsuc d) =
    let negated : unsigned_abs (neg_ℤ n) ≡ unsigned_abs n = omega (arith, ints) in
    rw negated at (div_euclid-size (neg_ℤ n) (suc d))

below_next : (j k : ℤ) → j <ℤ (k +ℤ pos 1) → k <ℤ (j +ℤ pos 1) → j ≡ k
below_next j k p q = omega (arith, ints)

-- there is but one floor
pub IsFloor-unique : (n d j k : ℤ) → d ≢ pos 0 → IsFloor n d j → IsFloor n d k → j ≡ k
IsFloor-unique n (pos zero) j k h p q = absurd (h refl)
IsFloor-unique n (pos (suc d)) j k h p q =
    let positive : pos 0 <ℤ pos (suc d) = omega (arith, ints) in
    below_next j k
    (lt-cancel j (k +ℤ pos 1) (pos (suc d)) (omega (arith, ints)) (omega (arith, ints, p.at_most positive, q.next_above positive)))
    (lt-cancel k (j +ℤ pos 1) (pos (suc d)) (omega (arith, ints)) (omega (arith, ints, q.at_most positive, p.next_above positive)))
IsFloor-unique n (negsuc d) j k h p q =
    let negative : negsuc d <ℤ pos 0 = omega (arith, ints) in
    below_next j k
    (lt-cancel j (k +ℤ pos 1) (pos (suc d)) (omega (arith, ints))
    (omega (arith, ints, *ℤ-negsuc j d, *ℤ-negsuc (k +ℤ pos 1) d, p.at_most_turned negative, q.next_above_turned negative)))
    (lt-cancel k (j +ℤ pos 1) (pos (suc d)) (omega (arith, ints))
    (omega (arith, ints, *ℤ-negsuc k d, *ℤ-negsuc (j +ℤ pos 1) d, q.at_most_turned negative, p.next_above_turned negative)))

pub rounded_down-some : (x y w : ℤ) → w ≢ pos 0 → rounded_down x y w ≡ Some (floor_of x w, floor_of y w)
rounded_down-some x y (pos zero) h = absurd (h refl)
rounded_down-some x y (pos (suc w)) h = refl
rounded_down-some x y (negsuc w) h = refl
