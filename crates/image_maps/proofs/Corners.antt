-- Numbers in twos, as a loop takes them, and the one ring of their points.
use Rattle.std.proofs.Common.{ℕ, zero, suc, ◌≡◌, ◌+◌, ◌*◌, ◌/◌, ◌^◌, ◌<◌, ◌≤◌, ℤ, pos, List, [], ◌∷◌, ◌++◌, length, drop, get_or, arith, refl, ap, ◌∙◌, sym, subst, append_assoc, length-drop, Bool, true, false, cond, ◌-◌}
use Rattle.std.specs.Prelude.{nat_le, ◌↔◌}
use Rattle.std.proofs.lemmas.Bool.Decides.{nat_tests}
use Rattle.std.specs.List.{All}
use Rattle.std.proofs.lemmas.Int.{ints}
use Rattle.std.proofs.lemmas.List.{append-nil, at_drop_more}
use Rattle.poly_shapes.specs.declared.point.Point.{Point}
use Rattle.poly_shapes.specs.declared.segment.Segment.{Segment}
use Rattle.poly_shapes.specs.declared.point.FillRule.TheVariants.{EvenOdd}
use Rattle.poly_shapes.specs.Segments.{IsPlaced, ring}
use Rattle.poly_shapes.specs.Outline.{points_of, edges}
use Rattle.poly_shapes.specs.Fill.{Fills}
use Rattle.image_maps.specs.declared.area.AreaKind.{AreaKind}
use Rattle.image_maps.specs.declared.area.AreaKind.TheVariants.{Rect, Circle, Poly, Default}
use Rattle.image_maps.specs.Area.{IsNumber, corner, in_twos, corners, ring_of, outline_of, InPoly}

twos-drop : (numbers : List ℤ) (i : ℕ) → i + 1 < length numbers
    → in_twos (drop i numbers) ≡ corner (get_or numbers i (pos 0)) (get_or numbers (i + 1) (pos 0)) ∷ in_twos (drop (i + 1 + 1) numbers)
twos-drop numbers i h =
    at_drop_more in_twos numbers i (pos 0) (omega arith)
    ∙ at_drop_more (λ rest. in_twos (get_or numbers i (pos 0) ∷ rest)) numbers (i + 1) (pos 0) h

-- one step of the loop
pub twos-step : (numbers : List ℤ) (k : ℕ) (done : List Point) → k < length numbers / 2
    → done ++ in_twos (drop (2 * k) numbers) ≡ in_twos numbers
    → (done ++ corner (get_or numbers (2 * k) (pos 0)) (get_or numbers (2 * k + 1) (pos 0)) ∷ [])
    ++ in_twos (drop (2 * (k + 1)) numbers) ≡ in_twos numbers
twos-step numbers k done h before =
    let two_more : 2 * k + 1 + 1 ≡ 2 * (k + 1) = omega arith in
    let first = corner (get_or numbers (2 * k) (pos 0)) (get_or numbers (2 * k + 1) (pos 0)) in
    append_assoc done (first ∷ []) (in_twos (drop (2 * (k + 1)) numbers))
    ∙ ap (λ i. done ++ first ∷ in_twos (drop i numbers)) (sym two_more)
    ∙ ap (λ rest. done ++ rest) (sym (twos-drop numbers (2 * k) (omega arith))) ∙ before

twos-short : (numbers : List ℤ) → length numbers ≤ 1 → in_twos numbers ≡ []
twos-short [] h = refl
twos-short (a ∷ []) h = refl
twos-short (a ∷ b ∷ numbers) h = absurd (omega arith)

-- at its end no two numbers are left
pub twos-end : (numbers : List ℤ) → in_twos (drop (2 * (length numbers / 2)) numbers) ≡ []
twos-end numbers = twos-short (drop (2 * (length numbers / 2)) numbers) (simp length-drop (omega arith))

pub length-in_twos : (numbers : List ℤ) → 2 * length (in_twos numbers) ≤ length numbers
length-in_twos [] = omega arith
length-in_twos (a ∷ []) = omega arith
length-in_twos (a ∷ b ∷ numbers) = let rest = length-in_twos numbers in omega arith

corner-placed : (x y : ℤ) → IsNumber x → IsNumber y → IsPlaced (corner x y)
corner-placed x y p q = record { across = omega (arith, ints); down = omega (arith, ints) }

-- the points are placed as poly_shapes wants them
pub in_twos-placed : (numbers : List ℤ) → All IsNumber numbers → All IsPlaced (in_twos numbers)
in_twos-placed [] all k d h = absurd (omega arith)
in_twos-placed (a ∷ []) all k d h = absurd (omega arith)
in_twos-placed (a ∷ b ∷ numbers) all zero d h = corner-placed a b (all 0 a (omega arith)) (all 1 a (omega arith))
in_twos-placed (a ∷ b ∷ numbers) all (suc k) d h =
    in_twos-placed numbers (λ i e l. all (suc (suc i)) e (omega arith)) k d (omega arith)

pub none_more : (done left all : List Point) → left ≡ [] → done ++ left ≡ all → done ≡ all
none_more done left all none whole = sym (append-nil done) ∙ ap (λ rest. done ++ rest) (sym none) ∙ whole

pub corners-few : (kind : AreaKind) (numbers : List ℤ) → 2 * length (corners kind numbers) ≤ length numbers
corners-few Rect numbers = omega arith
corners-few Circle numbers = omega arith
corners-few Poly numbers = few_by (nat_le 6 (length numbers)) numbers
  where
    few_by : (enough : Bool) (numbers : List ℤ) → 2 * length (cond enough (in_twos numbers) []) ≤ length numbers
    few_by true numbers = length-in_twos numbers
    few_by false numbers = omega arith
corners-few Default numbers = omega arith

no_points : All IsPlaced []
no_points k d h = absurd (omega arith)

pub corners-placed : (kind : AreaKind) (numbers : List ℤ) → All IsNumber numbers → All IsPlaced (corners kind numbers)
corners-placed Rect numbers all = no_points
corners-placed Circle numbers all = no_points
corners-placed Poly numbers all = placed_by (nat_le 6 (length numbers)) numbers all
  where
    placed_by : (enough : Bool) (numbers : List ℤ) → All IsNumber numbers → All IsPlaced (cond enough (in_twos numbers) [])
    placed_by true numbers all = in_twos-placed numbers all
    placed_by false numbers all = no_points
corners-placed Default numbers all = no_points
