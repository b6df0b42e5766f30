-- What an area covers as a test.
use Rattle.std.proofs.Common.{ℕ, ◌≡◌, ◌+◌, ◌*◌, ◌%◌, ◌≤◌, ◌==◌, ℤ, pos, ◌≤ℤ◌, ◌<ℤ◌, int_le, int_lt, Bool, true, false, ◌&&◌, List, length, arith, refl, sym, ◌∙◌}
use mathlib.Core.Bool.{false≢true}
use Rattle.std.specs.Prelude.{unsigned_abs, nat_le, IsTrue, ◌↔◌}
use Rattle.std.specs.Int.{int_min, int_max}
use Rattle.std.proofs.lemmas.Int.{ints}
use Rattle.std.proofs.lemmas.Bool.Decides.{nat_tests}
use Rattle.poly_shapes.specs.Segments.{square, distance, ring}
use Rattle.poly_shapes.specs.Fill.{crossings}
use Rattle.image_maps.specs.declared.area.AreaKind.{AreaKind}
use Rattle.image_maps.specs.declared.area.AreaKind.TheVariants.{Rect, Circle, Poly, Default}
use Rattle.image_maps.specs.Area.{Area, fine, number, in_twos, IsBetween, InRect, InCircle, InPoly, CoversBy, Covers, is_between, is_in_rect, is_in_circle, is_in_poly, is_covered_by, covers_point}

-- the tests of two numbers
le-tested : (a b : ℤ) → int_le a b ≡ true → a ≤ℤ b
le-tested a b is = grind (arith, ints)

lt-tested : (a b : ℤ) → int_lt a b ≡ true → a <ℤ b
lt-tested a b is = grind (arith, ints)

le-tests : (a b : ℤ) → a ≤ℤ b → int_le a b ≡ true
le-tests a b h = grind (arith, ints)

lt-tests : (a b : ℤ) → a <ℤ b → int_lt a b ≡ true
lt-tests a b h = grind (arith, ints)

nat-tested : (a b : ℕ) → nat_le a b ≡ true → a ≤ b
nat-tested a b is = grind (arith, nat_tests)

nat-tests : (a b : ℕ) → a ≤ b → nat_le a b ≡ true
nat-tests a b h = grind (arith, nat_tests)

-- two tests together
both : (a b : Bool) → a && b ≡ true → (a ≡ true) × (b ≡ true)
both true b is = (refl, is)
both false b is = absurd (false≢true is)

together : (a b : Bool) → a ≡ true → b ≡ true → a && b ≡ true
together true b is is' = is'
together false b is is' = absurd (false≢true is)

between-tested : (one other at : ℤ) → IsTrue (is_between one other at) ↔ IsBetween one other at
between-tested one other at = (
  λ is. let parts = both (int_le (fine (int_min one other)) at) (int_lt at (fine (int_max one other))) is in record { from = le-tested _ _ parts.0; before = lt-tested _ _ parts.1 },
  λ h. together _ _ (le-tests _ _ h.from) (lt-tests _ _ h.before),
)

rect-tested : (numbers : List ℤ) (x y : ℤ) → IsTrue (is_in_rect numbers x y) ↔ InRect numbers x y
rect-tested numbers x y =
    let across = between-tested (number numbers 0) (number numbers 2) x in
    let down = between-tested (number numbers 1) (number numbers 3) y in (
      λ is.
          let first = both (nat_le 4 (length numbers)) (is_between (number numbers 0) (number numbers 2) x && is_between (number numbers 1) (number numbers 3) y) is in
          let second = both (is_between (number numbers 0) (number numbers 2) x) (is_between (number numbers 1) (number numbers 3) y) first.1 in
          record { enough = nat-tested _ _ first.0; across = across.0 second.0; down = down.0 second.1 },
      λ h. together _ _ (nat-tests _ _ h.enough) (together _ _ (across.1 h.across) (down.1 h.down)),
    )

circle-tested : (numbers : List ℤ) (x y : ℤ) → IsTrue (is_in_circle numbers x y) ↔ InCircle numbers x y
circle-tested numbers x y =
    let far = square (distance x (fine (number numbers 0))) + square (distance y (fine (number numbers 1))) in
    let radius = square (64 * unsigned_abs (number numbers 2)) in (
      λ is.
          let first = both (nat_le 3 (length numbers)) (int_lt (pos 0) (number numbers 2) && nat_le far radius) is in
          let second = both (int_lt (pos 0) (number numbers 2)) (nat_le far radius) first.1 in
          record { enough = nat-tested _ _ first.0; positive = lt-tested _ _ second.0; within = nat-tested far radius second.1 },
      λ h. together _ _ (nat-tests _ _ h.enough) (together _ _ (lt-tests _ _ h.positive) (nat-tests far radius h.within)),
    )

eq-tested : (a b : ℕ) → (a == b) ≡ true → a ≡ b
eq-tested a b is = grind (arith, nat_tests)

eq-tests : (a b : ℕ) → a ≡ b → (a == b) ≡ true
eq-tests a b h = grind (arith, nat_tests)

poly-tested : (numbers : List ℤ) (x y : ℤ) → IsTrue (is_in_poly numbers x y) ↔ InPoly numbers x y
poly-tested numbers x y =
    let odd = crossings (ring (in_twos numbers)) x y % 2 in (
      λ is. let parts = both (nat_le 6 (length numbers)) (odd == 1) is in record { enough = nat-tested _ _ parts.0; inside = eq-tested odd 1 parts.1 },
      λ h. together _ _ (nat-tests _ _ h.enough) (eq-tests odd 1 h.inside),
    )

covers-tested : (kind : AreaKind) (numbers : List ℤ) (x y : ℤ) → IsTrue (is_covered_by kind numbers x y) ↔ CoversBy kind numbers x y
covers-tested Rect numbers x y = rect-tested numbers x y
covers-tested Circle numbers x y = circle-tested numbers x y
covers-tested Poly numbers x y = poly-tested numbers x y
covers-tested Default numbers x y = (λ is. tt, λ h. refl)

-- two tests of the same are the same
same_test : (a b : Bool) (P : Type 0) → IsTrue a ↔ P → IsTrue b ↔ P → a ≡ b
same_test true true P first second = refl
same_test true false P first second = absurd (false≢true (second.1 (first.0 refl)))
same_test false true P first second = absurd (false≢true (first.1 (second.0 refl)))
same_test false false P first second = refl

-- what tells that an area covers a point is the test
pub is_test : (area : Area) (x y : ℤ) (covered : Bool) → IsTrue covered ↔ Covers area x y → covered ≡ covers_point area x y
is_test area x y covered tells = same_test covered (covers_point area x y) (Covers area x y) tells (covers-tested area.kind area.numbers x y)
