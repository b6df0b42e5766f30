-- A point further off than the radius, across or down, is in no circle.
use Rattle.std.proofs.Common.{ℕ, ◌≡◌, ◌+◌, ◌*◌, ◌^◌, ◌<◌, ◌≤◌, ℤ, pos, ◌<ℤ◌, Bool, List, length, arith, subst, sym}
use Rattle.std.specs.Prelude.{unsigned_abs, IsTrue, ◌↔◌}
use Rattle.whole_numbers.proofs.Squares.{square-above}
use Rattle.poly_shapes.specs.Segments.{square, distance}
use Rattle.image_maps.specs.Area.{fine, number, InCircle}

pub too_far_across : (a b r : ℕ) → r < a → square a + square b ≤ square r → ⊥
too_far_across a b r h within = square-above a r (b * b) h within

pub too_far_down : (a b r : ℕ) → r < b → square a + square b ≤ square r → ⊥
too_far_down a b r h within = let turned : b * b + a * a ≤ r * r = omega arith in square-above b r (a * a) h turned

-- the test of a circle by what was measured
pub in_circle-by : (numbers : List ℤ) (x y : ℤ) (across down radius : ℕ) (r : Bool)
    → 3 ≤ length numbers → pos 0 <ℤ number numbers 2
    → across ≡ distance x (fine (number numbers 0)) → down ≡ distance y (fine (number numbers 1))
    → radius ≡ 64 * unsigned_abs (number numbers 2)
    → IsTrue r ↔ (square across + square down ≤ square radius) → IsTrue r ↔ InCircle numbers x y
in_circle-by numbers x y across down radius r enough positive e f g tests =
    let M : ℕ → ℕ → ℕ → Type 0 = λ a b l. square a + square b ≤ square l in
    let a' = distance x (fine (number numbers 0)) in
    let b' = distance y (fine (number numbers 1)) in
    let l' = 64 * unsigned_abs (number numbers 2) in (
      λ t. record {
        enough = enough;
        positive = positive;
        within = subst (λ l. M a' b' l) g (subst (λ b. M a' b radius) f (subst (λ a. M a down radius) e (tests.0 t)));
      },
      λ h. tests.1 (subst (λ a. M a down radius) (sym e) (subst (λ b. M a' b radius) (sym f) (subst (λ l. M a' b' l) (sym g) h.within))),
    )
