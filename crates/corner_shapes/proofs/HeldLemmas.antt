-- The test of the points of a rounded box is true exactly where the box holds the point: each of its parts decides a part.
use Rattle.std.proofs.Common.{◌≡◌, ℕ, ◌≤◌, ℤ, ◌≤ℤ◌, ◌<ℤ◌, ◌+ℤ◌, ◌-ℤ◌, Bool, true, false, Decides, IsTrue, ◌↔◌, refl, arith}
use Rattle.std.specs.Prelude.{◌&&◌, nat_le, int_le, int_lt}
use Rattle.std.proofs.lemmas.Int.{ints}
use Rattle.std.proofs.lemmas.Bool.{false≢true}
use Rattle.std.proofs.lemmas.Bool.Decides.{Decides-and, nat_tests, same_from_decides}
use Rattle.corner_shapes.specs.declared.rounded.Rounded.{Rounded}
use Rattle.corner_shapes.specs.Radii.{top_left, top_right, bottom_right, bottom_left}
use Rattle.corner_shapes.specs.Curve.{IsBetweenEdges, FitsTopLeft, FitsTopRight, FitsBottomRight, FitsBottomLeft, FitsCorners, InRounded}
use Rattle.corner_shapes.specs.Held.{ellipse_holds, holds_if, fits_top_left, fits_top_right, fits_bottom_right, fits_bottom_left, fits_corners, is_between_edges, in_rounded}

pub le-decides : (a b : ℤ) → Decides (int_le a b) (a ≤ℤ b)
le-decides a b = (λ t. grind (arith, ints), λ h. grind (arith, ints))

pub lt-decides : (a b : ℤ) → Decides (int_lt a b) (a <ℤ b)
lt-decides a b = (λ t. grind (arith, ints), λ h. grind (arith, ints))

nat_le-decides : (m n : ℕ) → Decides (nat_le m n) (m ≤ n)
nat_le-decides m n = (λ t. grind (arith, nat_tests), λ h. grind (arith, nat_tests))

-- what has to hold only where two tests do
holds_if-decides : {P Q R : Type 0} (across down held : Bool) → Decides across P → Decides down Q → Decides held R → Decides (holds_if across down held) (P → Q → R)
holds_if-decides true true held p q r = (λ t _ _. r.0 t, λ h. r.1 (h (p.0 refl) (q.0 refl)))
holds_if-decides true false held p q r = (λ _ _ there. absurd (false≢true (q.1 there)), λ _. refl)
holds_if-decides false down held p q r = (λ _ there. absurd (false≢true (p.1 there)), λ _. refl)

between-decides : (box : Rounded) (x y : ℤ) → Decides (is_between_edges box x y) (IsBetweenEdges box x y)
between-decides box x y =
    let across = Decides-and (int_le box.l x) (int_lt x box.r) (le-decides box.l x) (lt-decides x box.r) in
    let down = Decides-and (int_le box.t y) (int_lt y box.b) (le-decides box.t y) (lt-decides y box.b) in
    let both = Decides-and (int_le box.l x && int_lt x box.r) (int_le box.t y && int_lt y box.b) across down in (
      λ t. let is = both.0 t in record { left = is.0.0; right = is.0.1; top = is.1.0; bottom = is.1.1 },
      λ h. both.1 ((h.left, h.right), (h.top, h.bottom)),
    )

top_left-decides : (box : Rounded) (x y : ℤ) → Decides (fits_top_left box x y) (FitsTopLeft box x y)
top_left-decides box x y =
    let radii = top_left box.corners in
    let centre_x = box.l +ℤ radii.x in
    let centre_y = box.t +ℤ radii.y in
    holds_if-decides (int_lt x centre_x) (int_lt y centre_y) (ellipse_holds centre_x centre_y radii x y) (lt-decides x centre_x) (lt-decides y centre_y) (nat_le-decides _ _)

top_right-decides : (box : Rounded) (x y : ℤ) → Decides (fits_top_right box x y) (FitsTopRight box x y)
top_right-decides box x y =
    let radii = top_right box.corners in
    let centre_x = box.r -ℤ radii.x in
    let centre_y = box.t +ℤ radii.y in
    holds_if-decides (int_le centre_x x) (int_lt y centre_y) (ellipse_holds centre_x centre_y radii x y) (le-decides centre_x x) (lt-decides y centre_y) (nat_le-decides _ _)

bottom_right-decides : (box : Rounded) (x y : ℤ) → Decides (fits_bottom_right box x y) (FitsBottomRight box x y)
bottom_right-decides box x y =
    let radii = bottom_right box.corners in
    let centre_x = box.r -ℤ radii.x in
    let centre_y = box.b -ℤ radii.y in
    holds_if-decides (int_le centre_x x) (int_le centre_y y) (ellipse_holds centre_x centre_y radii x y) (le-decides centre_x x) (le-decides centre_y y) (nat_le-decides _ _)

bottom_left-decides : (box : Rounded) (x y : ℤ) → Decides (fits_bottom_left box x y) (FitsBottomLeft box x y)
bottom_left-decides box x y =
    let radii = bottom_left box.corners in
    let centre_x = box.l +ℤ radii.x in
    let centre_y = box.b -ℤ radii.y in
    holds_if-decides (int_lt x centre_x) (int_le centre_y y) (ellipse_holds centre_x centre_y radii x y) (lt-decides x centre_x) (le-decides centre_y y) (nat_le-decides _ _)

corners-decides : (box : Rounded) (x y : ℤ) → Decides (fits_corners box x y) (FitsCorners box x y)
corners-decides box x y =
    let top = Decides-and (fits_top_left box x y) (fits_top_right box x y) (top_left-decides box x y) (top_right-decides box x y) in
    let bottom = Decides-and (fits_bottom_right box x y) (fits_bottom_left box x y) (bottom_right-decides box x y) (bottom_left-decides box x y) in
    let all = Decides-and (fits_top_left box x y && fits_top_right box x y) (fits_bottom_right box x y && fits_bottom_left box x y) top bottom in (
      λ t. let is = all.0 t in record { top_left = is.0.0; top_right = is.0.1; bottom_right = is.1.0; bottom_left = is.1.1 },
      λ h. all.1 ((h.top_left, h.top_right), (h.bottom_right, h.bottom_left)),
    )

pub in_rounded-decides : (box : Rounded) (x y : ℤ) → Decides (in_rounded box x y) (InRounded box x y)
unfolding in_rounded
in_rounded-decides box x y =
    let both = Decides-and (is_between_edges box x y) (fits_corners box x y) (between-decides box x y) (corners-decides box x y) in (
      λ t. let is = both.0 t in record { between = is.0; corners = is.1 },
      λ h. both.1 (h.between, h.corners),
    )

-- what is true exactly where the box holds the point is the test
pub same_test : (r : Bool) (box : Rounded) (x y : ℤ) → IsTrue r ↔ InRounded box x y → r ≡ in_rounded box x y
same_test r box x y is = same_from_decides r (in_rounded box x y) is (in_rounded-decides box x y)
