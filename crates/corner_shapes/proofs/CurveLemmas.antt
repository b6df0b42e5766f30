use Rattle.std.proofs.Common.{◌≡◌, ℕ, ◌≤◌, Bool, true, Option, Some, None, SomeIff, IfSome, IsTrue, ◌↔◌, unsigned_abs, subst, sym, ℤ, ◌+ℤ◌, ◌-ℤ◌, ◌<ℤ◌, ◌≤ℤ◌, ap, ◌∙◌, FitsSigned, to_z, of_z, w64}
use mir.Syntax.{w128}
use Rattle.std.proofs.lemmas.Int.{to_z-of_z}
use Rattle.corner_shapes.specs.declared.radii.Radii.{Radii}
use Rattle.corner_shapes.specs.declared.radii.Corners.{Corners}
use Rattle.corner_shapes.specs.declared.rounded.Rounded.{Rounded}
use Rattle.corner_shapes.specs.Curve.{IsWithinEllipse, FitsBoth, distance}

-- a number as it is read back from its bits
abbrev read : ℤ → ℤ
read z = to_z w64 (of_z w64 z)

abbrev read_wide : ℤ → ℤ
read_wide z = to_z w128 (of_z w128 z)

-- what is found exactly where P and Q hold fits exactly where its distances do if P and Q hold
pub FitsBoth-found : (across down : Option ℕ) (radii : Radii) (P Q : Type 0) (dx dy : ℕ)
    → SomeIff across P dx → SomeIff down Q dy
    → FitsBoth across down radii ↔ (P → Q → IsWithinEllipse dx dy (unsigned_abs radii.x) (unsigned_abs radii.y))
FitsBoth-found None down radii P Q dx dy absent found = (λ _ p. absurd (absent p), λ _. tt)
FitsBoth-found (Some a) None radii P Q dx dy found absent = (λ _ p q. absurd (absent q), λ _. tt)
FitsBoth-found (Some a) (Some b) radii P Q dx dy found found' =
    let M : ℕ → ℕ → Type 0 = λ v w. IsWithinEllipse v w (unsigned_abs radii.x) (unsigned_abs radii.y) in (
      λ h p q. subst (λ v. M v dy) found.1 (subst (M a) found'.1 h),
      λ h. subst (λ v. M v b) (sym found.1) (subst (M dx) (sym found'.1) (h found.0 found'.0)),
    )

-- a coordinate that lies before the end of a radius, or from the start of one on
abbrev pub IsBefore : ℤ → ℤ → ℤ → Type 0
IsBefore edge radius at = at <ℤ (edge +ℤ radius)

abbrev pub IsAfter : ℤ → ℤ → ℤ → Type 0
IsAfter edge radius at = (edge -ℤ radius) ≤ℤ at

-- the test of a corner by what was found across and down, for the radii that were made. The code passes each number by its
-- bits, from which it is read back.
pub fits_corner : (r : Bool) (across down : Option ℕ) (made radii : Radii) (edge edge' x y : ℤ)
    (P Q : ℤ → ℤ → ℤ → Type 0) (centre centre' : ℤ → ℤ → ℤ)
    → FitsSigned w64 made.x → FitsSigned w64 made.y → FitsSigned w64 edge → FitsSigned w64 edge' → FitsSigned w128 x → FitsSigned w128 y
    → made ≡ radii → IsTrue r ↔ FitsBoth across down made
    → SomeIff across (P (read edge) (read made.x) (read_wide x)) (distance (read_wide x) (centre (read edge) (read made.x)))
    → SomeIff down (Q (read edge') (read made.y) (read_wide y)) (distance (read_wide y) (centre' (read edge') (read made.y)))
    → IsTrue r ↔ (P edge radii.x x → Q edge' radii.y y
    → IsWithinEllipse (distance x (centre edge radii.x)) (distance y (centre' edge' radii.y)) (unsigned_abs radii.x) (unsigned_abs radii.y))
fits_corner r across down made radii edge edge' x y P Q centre centre' fx fy fe fe' fat fat' same fits found found' =
    let C : Radii → Type 0 =
    λ v. IsTrue r ↔ (P edge v.x x → Q edge' v.y y → IsWithinEllipse (distance x (centre edge v.x)) (distance y (centre' edge' v.y)) (unsigned_abs v.x) (unsigned_abs v.y)) in
    let there = rw (to_z-of_z w64 edge fe, to_z-of_z w64 made.x fx, to_z-of_z w128 x fat) at found in
    let there' = rw (to_z-of_z w64 edge' fe', to_z-of_z w64 made.y fy, to_z-of_z w128 y fat') at found' in
    let both = FitsBoth-found across down made _ _ _ _ there there' in
    subst C same (λ t. both.0 (fits.0 t), λ h. fits.1 (both.1 h))

-- what was found is no further off than the radius
pub found-within : (found : Option ℕ) (radius : ℤ) → FitsSigned w64 radius
    → IfSome found (λ d. d ≤ unsigned_abs (read radius)) → IfSome found (λ d. d ≤ unsigned_abs radius)
found-within found radius fits within = rw (to_z-of_z w64 radius fits) at within

-- what `a && b` answers where the first test holds, and where it doesn't
pub and_true : (a b : Bool) (P Q : Type 0) → a ≡ true → IsTrue a ↔ P → IsTrue b ↔ Q → IsTrue b ↔ (P × Q)
and_true a b P Q t first second = (λ u. (first.0 t, second.0 u), λ h. second.1 h.1)

abbrev pub box_of : ℤ → ℤ → ℤ → ℤ → Corners → Rounded
box_of l t r b corners = record { l = l; t = t; r = r; b = b; corners = corners }

pub same_box : {l t r b l' t' r' b' : ℤ} {c c' : Corners} → l ≡ l' → t ≡ t' → r ≡ r' → b ≡ b' → c ≡ c'
    → box_of l t r b c ≡ box_of l' t' r' b' c'
same_box {l} {t} {r} {b} {l'} {t'} {r'} {b'} {c} {c'} p q u v w =
    ap (λ x. box_of x t r b c) p ∙ ap (λ x. box_of l' x r b c) q ∙ ap (λ x. box_of l' t' x b c) u
    ∙ ap (λ x. box_of l' t' r' x c) v ∙ ap (box_of l' t' r' b') w
