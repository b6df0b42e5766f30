-- CSS Backgrounds and Borders 3, "Corner Shaping": a corner is the quarter of an ellipse whose centre
-- lies the two radii inward from the box's corner; the padding edge's radius is the border radius
-- less the border's width, and at least zero.
use Rattle.std.specs.Prelude.{ℕ, ◌+◌, ◌*◌, ◌^◌, ◌≤◌, ℤ, pos, ◌+ℤ◌, ◌-ℤ◌, ◌*ℤ◌, ◌≤ℤ◌, ◌<ℤ◌, unsigned_abs, Option, IfSome}
use Rattle.std.specs.Int.{int_max}
use Rattle.corner_shapes.specs.declared.radii.Corners.{Corners}
use Rattle.corner_shapes.specs.declared.rounded.Edges.{Edges}
use Rattle.corner_shapes.specs.declared.rounded.Rounded.{Rounded}
use Rattle.corner_shapes.specs.declared.radii.Radii.{Radii}
use Rattle.corner_shapes.specs.Radii.{top_left, top_right, bottom_right, bottom_left, corners_of, IsLengthWithin, AreRadiiWithin}

-- the sizes for which a rounded box is tested: edges up to 2^34 either way, radii from 0 to 2^28
pub record IsMeasured (box : Rounded) : Type 0 where
  pub left : unsigned_abs box.l ≤ 2 ^ 34
  pub top : unsigned_abs box.t ≤ 2 ^ 34
  pub right : unsigned_abs box.r ≤ 2 ^ 34
  pub bottom : unsigned_abs box.b ≤ 2 ^ 34
  pub radii : AreRadiiWithin (2 ^ 28) box.corners

-- each of the four widths lies from 0 to the limit
pub record AreBordersWithin (limit : ℕ) (edges : Edges) : Type 0 where
  pub top : IsLengthWithin limit edges.top
  pub right : IsLengthWithin limit edges.right
  pub bottom : IsLengthWithin limit edges.bottom
  pub left : IsLengthWithin limit edges.left

-- units as fine units
abbrev pub fine : ℤ → ℤ
fine units = pos 64 *ℤ units

-- a border radius less the border's width, and at least zero
abbrev pub inner_radius : ℤ → ℤ → ℤ
inner_radius radius width = int_max (radius -ℤ fine width) (pos 0)

-- the radii of one corner less the borders that meet there
abbrev pub inner_radii : Radii → (across down : ℤ) → Radii
inner_radii radii across down = record { x = inner_radius radii.x across; y = inner_radius radii.y down }

-- the radii of the padding curve
abbrev pub inner_corners : Corners → Edges → Corners
inner_corners c edges = corners_of
    (inner_radii (top_left c) edges.left edges.top) (inner_radii (top_right c) edges.right edges.top)
    (inner_radii (bottom_right c) edges.right edges.bottom) (inner_radii (bottom_left c) edges.left edges.bottom)

-- the padding curve of a border box in fine units, with its border widths in units
abbrev pub padding_curve : Rounded → Edges → Rounded
padding_curve box edges = record {
  l = box.l +ℤ fine edges.left;
  t = box.t +ℤ fine edges.top;
  r = box.r -ℤ fine edges.right;
  b = box.b -ℤ fine edges.bottom;
  corners = inner_corners box.corners edges;
}

abbrev pub square : ℕ → ℕ
square n = n * n

-- how far apart two coordinates are
abbrev pub distance : ℤ → ℤ → ℕ
distance a b = unsigned_abs (a -ℤ b)

-- (dx / rx)^2 + (dy / ry)^2 <= 1, written without a division
abbrev pub IsWithinEllipse : (dx dy rx ry : ℕ) → Type 0
IsWithinEllipse dx dy rx ry = square (dx * ry) + square (dy * rx) ≤ square (rx * ry)

-- the quarter of the ellipse holds a point at these distances, where both are there
abbrev pub FitsBoth : Option ℕ → Option ℕ → Radii → Type 0
FitsBoth across down radii =
    IfSome across (λ dx. IfSome down (λ dy. IsWithinEllipse dx dy (unsigned_abs radii.x) (unsigned_abs radii.y)))

-- the ellipse with this centre and these radii holds the point, its curve too
abbrev pub EllipseHolds : (centre_x centre_y : ℤ) → Radii → (x y : ℤ) → Type 0
EllipseHolds centre_x centre_y radii x y =
    IsWithinEllipse (distance x centre_x) (distance y centre_y) (unsigned_abs radii.x) (unsigned_abs radii.y)

-- A point belongs to a corner where it lies between the box's corner and the centre of the corner's
-- ellipse, across and down. No point of the box belongs to a corner with a zero radius. A point that
-- belongs to a corner has to lie in its ellipse.
abbrev pub FitsTopLeft : Rounded → ℤ → ℤ → Type 0
FitsTopLeft box x y =
    let radii = top_left box.corners in
    let centre_x = box.l +ℤ radii.x in
    let centre_y = box.t +ℤ radii.y in
    x <ℤ centre_x → y <ℤ centre_y → EllipseHolds centre_x centre_y radii x y

abbrev pub FitsTopRight : Rounded → ℤ → ℤ → Type 0
FitsTopRight box x y =
    let radii = top_right box.corners in
    let centre_x = box.r -ℤ radii.x in
    let centre_y = box.t +ℤ radii.y in
    centre_x ≤ℤ x → y <ℤ centre_y → EllipseHolds centre_x centre_y radii x y

abbrev pub FitsBottomRight : Rounded → ℤ → ℤ → Type 0
FitsBottomRight box x y =
    let radii = bottom_right box.corners in
    let centre_x = box.r -ℤ radii.x in
    let centre_y = box.b -ℤ radii.y in
    centre_x ≤ℤ x → centre_y ≤ℤ y → EllipseHolds centre_x centre_y radii x y

abbrev pub FitsBottomLeft : Rounded → ℤ → ℤ → Type 0
FitsBottomLeft box x y =
    let radii = bottom_left box.corners in
    let centre_x = box.l +ℤ radii.x in
    let centre_y = box.b -ℤ radii.y in
    x <ℤ centre_x → centre_y ≤ℤ y → EllipseHolds centre_x centre_y radii x y

-- the point lies between the edges: the left and top ones are in, the right and bottom ones aren't
pub record IsBetweenEdges (box : Rounded) (x y : ℤ) : Type 0 where
  pub left : box.l ≤ℤ x
  pub right : x <ℤ box.r
  pub top : box.t ≤ℤ y
  pub bottom : y <ℤ box.b

-- the point lies in each corner that it belongs to
pub record FitsCorners (box : Rounded) (x y : ℤ) : Type 0 where
  pub top_left : FitsTopLeft box x y
  pub top_right : FitsTopRight box x y
  pub bottom_right : FitsBottomRight box x y
  pub bottom_left : FitsBottomLeft box x y

-- the rounded box holds the point
pub record InRounded (box : Rounded) (x y : ℤ) : Type 0 where
  pub between : IsBetweenEdges box x y
  pub corners : FitsCorners box x y
