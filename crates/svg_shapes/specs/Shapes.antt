-- SVG 2, "Basic Shapes", "Paths" and "Painting: Filling, Stroking and Marker Symbols": which points the interior of a
-- shape and the perimeter of its stroke hold, and the bounds of the shape.
use Rattle.std.specs.Prelude.{◌≡◌, ◌⊎◌, ℕ, ◌*◌, ◌-◌, ◌^◌, min, ℤ, pos, ◌+ℤ◌, ◌-ℤ◌, int_lt, ◌&&◌, if◌then◌else◌, IsTrue, Option, option_map, List, [], ◌∷◌, length}
use Rattle.std.specs.List.{All, flat_map}
use Rattle.poly_shapes.specs.declared.point.Point.{Point}
use Rattle.poly_shapes.specs.declared.point.Bounds.{Bounds}
use Rattle.poly_shapes.specs.declared.point.FillRule.{FillRule}
use Rattle.poly_shapes.specs.declared.point.Cap.{Cap}
use Rattle.poly_shapes.specs.Rectangle.{point, rectangle}
use Rattle.poly_shapes.specs.Outline.{edges, line}
use Rattle.poly_shapes.specs.Fill.{Fills}
use Rattle.poly_shapes.specs.Stroke.{strokes}
use Rattle.poly_shapes.specs.Extent.{bounds_of, moved_out}
use Rattle.svg_shapes.specs.declared.boxes.FineBox.{FineBox}
use Rattle.svg_shapes.specs.declared.shape.Shape.{Shape}
use Rattle.svg_shapes.specs.declared.shape.Shape.TheVariants.{Path, Polygon, Polyline, Line, Rect, Circle, Ellipse, Boxes}
use Rattle.svg_shapes.specs.Measures.{IsPlace, IsLength, IsBoxMeasured}
use Rattle.svg_shapes.specs.Rects.{InRect, OnRect}
use Rattle.svg_shapes.specs.Ellipses.{ellipse_of, InEllipse, OnEllipse}
use Rattle.svg_shapes.specs.Boxes.{InBoxes}

abbrev pub box_of : (x y w h : ℤ) → FineBox
box_of x y w h = record { x = x; y = y; w = w; h = h }

-- ---- the numbers of a shape: places within 2^26 fine units, sizes and radii from 0 to 2^26. The points of a path, a
-- polygon and a polyline are always so placed.

pub record IsLinePlaced (x1 y1 x2 y2 : ℤ) : Type 0 where
  pub from_across : IsPlace x1
  pub from_down : IsPlace y1
  pub to_across : IsPlace x2
  pub to_down : IsPlace y2

pub record IsRectMeasured (box : FineBox) (rx ry : ℤ) : Type 0 where
  pub sides : IsBoxMeasured box
  pub radius_across : IsLength rx
  pub radius_down : IsLength ry

pub record IsEllipseMeasured (cx cy rx ry : ℤ) : Type 0 where
  pub centre_across : IsPlace cx
  pub centre_down : IsPlace cy
  pub radius_across : IsLength rx
  pub radius_down : IsLength ry

abbrev pub IsMeasured : Shape → Type 0
IsMeasured (Path outline) = Unit {0}
IsMeasured (Polygon outline) = Unit {0}
IsMeasured (Polyline outline) = Unit {0}
IsMeasured (Line x1 y1 x2 y2) = IsLinePlaced x1 y1 x2 y2
IsMeasured (Rect x y w h rx ry) = IsRectMeasured (box_of x y w h) rx ry
IsMeasured (Circle cx cy r) = IsEllipseMeasured cx cy r r
IsMeasured (Ellipse cx cy rx ry) = IsEllipseMeasured cx cy rx ry
IsMeasured (Boxes boxes) = All IsBoxMeasured boxes

-- ---- what a shape holds

-- the interior, of a path, a polygon and a polyline by a fill rule; a line has none
abbrev pub Interior : Shape → FillRule → (x y : ℤ) → Type 0
Interior (Path outline) rule x y = Fills rule (edges outline) x y
Interior (Polygon outline) rule x y = Fills rule (edges outline) x y
Interior (Polyline outline) rule x y = Fills rule (edges outline) x y
Interior (Line x1 y1 x2 y2) rule x y = ⊥
Interior (Rect left top w h rx ry) rule x y = InRect (box_of left top w h) rx ry x y
Interior (Circle cx cy r) rule x y = InEllipse (ellipse_of cx cy r r) x y
Interior (Ellipse cx cy rx ry) rule x y = InEllipse (ellipse_of cx cy rx ry) x y
Interior (Boxes boxes) rule x y = InBoxes boxes x y

-- the perimeter: what a stroke of a width paints; boxes have none
abbrev pub Perimeter : Shape → (width : ℕ) → Cap → (x y : ℤ) → Type 0
Perimeter (Path outline) width ends x y = IsTrue (strokes outline width ends x y)
Perimeter (Polygon outline) width ends x y = IsTrue (strokes outline width ends x y)
Perimeter (Polyline outline) width ends x y = IsTrue (strokes outline width ends x y)
Perimeter (Line x1 y1 x2 y2) width ends x y = IsTrue (strokes (line (point x1 y1) (point x2 y2)) width ends x y)
Perimeter (Rect left top w h rx ry) width ends x y = OnRect (box_of left top w h) rx ry width x y
Perimeter (Circle cx cy r) width ends x y = OnEllipse (ellipse_of cx cy r r) width x y
Perimeter (Ellipse cx cy rx ry) width ends x y = OnEllipse (ellipse_of cx cy rx ry) width x y
Perimeter (Boxes boxes) width ends x y = ⊥

-- ---- the bounds of a shape

abbrev pub corners : FineBox → List Point
corners box = (rectangle box.x box.y (box.x +ℤ box.w) (box.y +ℤ box.h)).points

abbrev pub line_points : (x1 y1 x2 y2 : ℤ) → List Point
line_points x1 y1 x2 y2 = point x1 y1 ∷ point x2 y2 ∷ []

-- the corners of a rect whose sides are positive
abbrev pub rect_points : FineBox → List Point
rect_points box = if int_lt (pos 0) box.w && int_lt (pos 0) box.h then corners box else []

-- two opposite corners of the rectangle round an ellipse whose radii are positive
abbrev pub ellipse_points : (cx cy rx ry : ℤ) → List Point
ellipse_points cx cy rx ry =
    if int_lt (pos 0) rx && int_lt (pos 0) ry
    then point (cx -ℤ rx) (cy -ℤ ry) ∷ point (cx +ℤ rx) (cy +ℤ ry) ∷ []
    else []

-- the points that the bounds are those of; none for a shape that is disabled
abbrev pub base_points : Shape → List Point
base_points (Path outline) = outline.points
base_points (Polygon outline) = outline.points
base_points (Polyline outline) = outline.points
base_points (Line x1 y1 x2 y2) = line_points x1 y1 x2 y2
base_points (Rect x y w h rx ry) = rect_points (box_of x y w h)
base_points (Circle cx cy r) = ellipse_points cx cy r r
base_points (Ellipse cx cy rx ry) = ellipse_points cx cy rx ry
base_points (Boxes boxes) = flat_map corners boxes

-- the least closed rectangle of the base points, with each side moved out by a stroke's width
abbrev pub shape_bounds : Shape → (width : ℕ) → Option Bounds
shape_bounds shape width = option_map (moved_out width) (bounds_of (base_points shape))

-- a shape without bounds: it has no point, no box, or a size that disables it
abbrev pub IsDisabled : Shape → Type 0
IsDisabled (Path outline) = outline.points ≡ []
IsDisabled (Polygon outline) = outline.points ≡ []
IsDisabled (Polyline outline) = outline.points ≡ []
IsDisabled (Line x1 y1 x2 y2) = ⊥
IsDisabled (Rect x y w h rx ry) = (w ≡ pos 0) ⊎ (h ≡ pos 0)
IsDisabled (Circle cx cy r) = r ≡ pos 0
IsDisabled (Ellipse cx cy rx ry) = (rx ≡ pos 0) ⊎ (ry ≡ pos 0)
IsDisabled (Boxes boxes) = boxes ≡ []

-- ---- how many vertices a shape counts for: its points, and two for a line and for each box

abbrev pub vertices : Shape → ℕ
vertices (Path outline) = length outline.points
vertices (Polygon outline) = length outline.points
vertices (Polyline outline) = length outline.points
vertices (Line x1 y1 x2 y2) = 2
vertices (Rect x y w h rx ry) = 0
vertices (Circle cx cy r) = 0
vertices (Ellipse cx cy rx ry) = 0
vertices (Boxes boxes) = min (2 * length boxes) (2 ^ 32 - 1)
