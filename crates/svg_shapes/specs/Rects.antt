-- SVG 2, "The 'rect' element" and "The 'rx' and 'ry' properties": a rectangle with rounded corners. It holds its left
-- and top edges and not its right and bottom ones, the curves of its corners are closed.
use Rattle.std.specs.Prelude.{ℕ, ◌<◌, ◌≤◌, unsigned_abs, ℤ, pos, ◌+ℤ◌, ◌-ℤ◌, ◌<ℤ◌, int_lt, ◌&&◌, if◌then◌else◌, [], ◌∷◌}
use Rattle.std.specs.Int.{int_min, int_max}
use Rattle.corner_shapes.specs.declared.rounded.Rounded.{Rounded}
use Rattle.corner_shapes.specs.Radii.{IsLengthWithin}
use Rattle.corner_shapes.specs.Curve.{InRounded}
use Rattle.svg_shapes.specs.declared.boxes.FineBox.{FineBox}
use Rattle.svg_shapes.specs.declared.rect.RoundRect.{RoundRect}
use Rattle.svg_shapes.specs.Measures.{twice}

-- a rect in half fine units whose edges lie within a distance of 0, and whose radii go from 0 to a limit
pub record IsRectWithin (edge radius : ℕ) (rect : RoundRect) : Type 0 where
  pub left : unsigned_abs rect.l ≤ edge
  pub top : unsigned_abs rect.t ≤ edge
  pub right : unsigned_abs rect.r ≤ edge
  pub bottom : unsigned_abs rect.b ≤ edge
  pub rx : IsLengthWithin radius rect.rx
  pub ry : IsLengthWithin radius rect.ry

-- the used radius along a side, in half fine units: no more than half the side, and 0 where this radius or that along
-- the other side is 0
abbrev pub used_radius : (side own other : ℤ) → ℤ
used_radius side own other = if int_lt (pos 0) own && int_lt (pos 0) other then int_min (twice own) side else pos 0

-- a rect by its place, its sides and its radii, in half fine units
abbrev pub rect_of : FineBox → (rx ry : ℤ) → RoundRect
rect_of box rx ry = record {
  l = twice box.x;
  t = twice box.y;
  r = twice (box.x +ℤ box.w);
  b = twice (box.y +ℤ box.h);
  rx = used_radius box.w rx ry;
  ry = used_radius box.h ry rx;
}

-- as a rounded box with four like corners
abbrev pub rounded : RoundRect → Rounded
rounded rect = record {
  l = rect.l;
  t = rect.t;
  r = rect.r;
  b = rect.b;
  corners = record { r = rect.rx ∷ rect.ry ∷ rect.rx ∷ rect.ry ∷ rect.rx ∷ rect.ry ∷ rect.rx ∷ rect.ry ∷ [] };
}

-- the rect grown by half a stroke's width, which is the width in half fine units: each side moved out and each radius
-- more by it
abbrev pub grown_rect : (width : ℕ) → RoundRect → RoundRect
grown_rect width rect = record {
  l = rect.l -ℤ pos width;
  t = rect.t -ℤ pos width;
  r = rect.r +ℤ pos width;
  b = rect.b +ℤ pos width;
  rx = rect.rx +ℤ pos width;
  ry = rect.ry +ℤ pos width;
}

-- the rect shrunk by half a stroke's width: each side moved in and each radius less by it, and at least 0. Where its
-- sides have met it holds nothing.
abbrev pub shrunk_rect : (width : ℕ) → RoundRect → RoundRect
shrunk_rect width rect = record {
  l = rect.l +ℤ pos width;
  t = rect.t +ℤ pos width;
  r = rect.r -ℤ pos width;
  b = rect.b -ℤ pos width;
  rx = int_max (rect.rx -ℤ pos width) (pos 0);
  ry = int_max (rect.ry -ℤ pos width) (pos 0);
}

-- a rect in half fine units holds a point in fine units
abbrev pub RectHolds : RoundRect → (x y : ℤ) → Type 0
RectHolds rect x y = InRounded (rounded rect) (twice x) (twice y)

-- the interior of a rect; a side of 0 disables it
pub record InRect (box : FineBox) (rx ry : ℤ) (x y : ℤ) : Type 0 where
  pub wide : pos 0 <ℤ box.w
  pub high : pos 0 <ℤ box.h
  pub inside : RectHolds (rect_of box rx ry) x y

-- the band of a stroke round a rect: what the grown rect holds and the shrunk one doesn't
pub record RectBandHolds (width : ℕ) (rect : RoundRect) (x y : ℤ) : Type 0 where
  pub within : RectHolds (grown_rect width rect) x y
  pub beyond : RectHolds (shrunk_rect width rect) x y → ⊥

-- the perimeter of a rect; with width 0 there is none
pub record OnRect (box : FineBox) (rx ry : ℤ) (width : ℕ) (x y : ℤ) : Type 0 where
  pub wide : pos 0 <ℤ box.w
  pub high : pos 0 <ℤ box.h
  pub stroked : 0 < width
  pub band : RectBandHolds width (rect_of box rx ry) x y
