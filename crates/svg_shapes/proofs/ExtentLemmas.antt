-- The base points of a shape, and that they hold what the shape holds.
use Rattle.std.proofs.Common.{◌≡◌, ◌⊎◌, inl, inr, ℕ, ◌^◌, ◌≤◌, ℤ, pos, ◌+ℤ◌, ◌-ℤ◌, ◌<ℤ◌, true, List, [], ◌∷◌, None, arith, refl, ap, sym, ◌∙◌}
use Rattle.std.specs.Prelude.{int_lt}
use Rattle.std.proofs.lemmas.Int.{ints}
use Rattle.poly_shapes.specs.declared.point.Point.{Point}
use Rattle.poly_shapes.specs.declared.point.Bounds.{Bounds}
use Rattle.poly_shapes.specs.Rectangle.{point}
use Rattle.poly_shapes.specs.Extent.{bounds_of, moved_out, AreSidesWithin}
use Rattle.svg_shapes.specs.declared.boxes.FineBox.{FineBox}
use Rattle.svg_shapes.specs.declared.shape.Shape.{Shape}
use Rattle.svg_shapes.specs.declared.shape.Shape.TheVariants.{Path, Polygon, Polyline, Line, Rect, Circle, Ellipse, Boxes}
use Rattle.svg_shapes.specs.Measures.{IsLength}
use Rattle.svg_shapes.specs.Shapes.{box_of, IsMeasured, IsDisabled, corners, rect_points, ellipse_points, base_points}

is_positive : (z : ℤ) → pos 0 <ℤ z → int_lt (pos 0) z ≡ true
is_positive z h = grind (arith, ints)

pub ellipse_points-drawn : (cx cy rx ry : ℤ) → pos 0 <ℤ rx → pos 0 <ℤ ry
    → ellipse_points cx cy rx ry ≡ point (cx -ℤ rx) (cy -ℤ ry) ∷ point (cx +ℤ rx) (cy +ℤ ry) ∷ []
ellipse_points-drawn cx cy rx ry wide high = rw (is_positive rx wide, is_positive ry high) refl

pub rect_points-drawn : (box : FineBox) → pos 0 <ℤ box.w → pos 0 <ℤ box.h → rect_points box ≡ corners box
rect_points-drawn box wide high = rw (is_positive box.w wide, is_positive box.h high) refl

-- ---- a shape without bounds is disabled

no_points : (points : List Point) → bounds_of points ≡ None → points ≡ []
no_points [] e = refl
no_points (p ∷ points) e = absurd (let no : ⊥ = cc in no)

zero_or_positive : (z : ℤ) → IsLength z → (z ≡ pos 0) ⊎ (pos 0 <ℤ z)
zero_or_positive z length = grind (arith, ints)

either : {P Q G : Type 0} → P ⊎ Q → (P → G) → (Q → G) → G
either (inl p) f g = f p
either (inr q) f g = g q

rect-disabled : (box : FineBox) → IsLength box.w → IsLength box.h → bounds_of (rect_points box) ≡ None
    → (box.w ≡ pos 0) ⊎ (box.h ≡ pos 0)
rect-disabled box w h e =
    either (zero_or_positive box.w w) (λ none. inl none) (λ wide.
    either (zero_or_positive box.h h) (λ none. inr none) (λ high.
    let drawn = sym (ap bounds_of (rect_points-drawn box wide high)) ∙ e in let no : ⊥ = cc in absurd no))

ellipse-disabled : (cx cy rx ry : ℤ) → IsLength rx → IsLength ry → bounds_of (ellipse_points cx cy rx ry) ≡ None
    → (rx ≡ pos 0) ⊎ (ry ≡ pos 0)
ellipse-disabled cx cy rx ry w h e =
    either (zero_or_positive rx w) (λ none. inl none) (λ wide.
    either (zero_or_positive ry h) (λ none. inr none) (λ high.
    let drawn = sym (ap bounds_of (ellipse_points-drawn cx cy rx ry wide high)) ∙ e in let no : ⊥ = cc in absurd no))

pub disabled : (shape : Shape) → IsMeasured shape → bounds_of (base_points shape) ≡ None → IsDisabled shape
disabled (Path outline) m e = no_points outline.points e
disabled (Polygon outline) m e = no_points outline.points e
disabled (Polyline outline) m e = no_points outline.points e
disabled (Line x1 y1 x2 y2) m e = let no : ⊥ = cc in no
disabled (Rect x y w h rx ry) m e = rect-disabled (box_of x y w h) m.sides.w m.sides.h e
disabled (Circle cx cy r) m e =
    either (ellipse-disabled cx cy r r m.radius_across m.radius_down e) (λ none. none) (λ none. none)
disabled (Ellipse cx cy rx ry) m e = ellipse-disabled cx cy rx ry m.radius_across m.radius_down e
disabled (Boxes []) m e = refl
disabled (Boxes (box ∷ boxes)) m e = absurd (let no : ⊥ = cc in no)

-- bounds that are moved out stay near
pub moved-near : (b : Bounds) (width : ℕ) → width ≤ 2 ^ 26 → AreSidesWithin (2 ^ 27) b
    → AreSidesWithin (2 ^ 28) (moved_out width b)
moved-near b width small near = record {
  left = omega (arith, ints, near.left);
  top = omega (arith, ints, near.top);
  right = omega (arith, ints, near.right);
  bottom = omega (arith, ints, near.bottom);
}
