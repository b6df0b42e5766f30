-- The stroke of a straight line is that of its one subpath.
use Rattle.std.proofs.Common.{◌≡◌, ℕ, zero, suc, ◌<◌, ℤ, Bool, true, false, ◌||◌, [], ◌∷◌, arith, refl, sym}
use Rattle.std.specs.Prelude.{nat_lt}
use Rattle.std.specs.List.{All}
use Rattle.std.proofs.lemmas.Bool.Decides.{nat_tests}
use Rattle.poly_shapes.specs.declared.point.Point.{Point}
use Rattle.poly_shapes.specs.declared.point.Cap.{Cap}
use Rattle.poly_shapes.specs.Segments.{IsPlaced}
use Rattle.poly_shapes.specs.Outline.{line}
use Rattle.poly_shapes.specs.Stroke.{subpath_holds, strokes}

or_false : (b : Bool) → (b || false) ≡ b
or_false true = refl
or_false false = refl

is_above : (w : ℕ) → 0 < w → nat_lt 0 w ≡ true
is_above w above = grind (arith, nat_tests)

pub line-strokes : (from to : Point) (w : ℕ) (ends : Cap) (x y : ℤ) → 0 < w
    → subpath_holds false ends w x y (from ∷ to ∷ []) ≡ strokes (line from to) w ends x y
line-strokes from to w ends x y above =
    rw (is_above w above) (sym (or_false (subpath_holds false ends w x y (from ∷ to ∷ []))))

pub ends-placed : (from to : Point) → IsPlaced from → IsPlaced to → All IsPlaced (from ∷ to ∷ [])
ends-placed from to p q zero d h = p
ends-placed from to p q (suc zero) d h = q
ends-placed from to p q (suc (suc k)) d h = absurd (omega arith)
