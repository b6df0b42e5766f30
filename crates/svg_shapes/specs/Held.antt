-- The points that the interior of a shape and the perimeter of its stroke hold, as tests: the same as `Interior` and
-- `Perimeter` of `Shapes.antt`, for definitions that are tests.
use Rattle.std.specs.Prelude.{ℕ, ◌%◌, ◌==◌, nat_lt, ℤ, pos, ◌+ℤ◌, int_le, int_lt, Bool, false, not, ◌&&◌, List}
use Rattle.std.specs.Ordering.{int_eq}
use Rattle.std.specs.List.{list_any}
use Rattle.corner_shapes.specs.Held.{ellipse_holds, in_rounded}
use Rattle.poly_shapes.specs.declared.segment.Segment.{Segment}
use Rattle.poly_shapes.specs.declared.point.FillRule.{FillRule}
use Rattle.poly_shapes.specs.declared.point.FillRule.TheVariants.{NonZero, EvenOdd}
use Rattle.poly_shapes.specs.declared.point.Cap.{Cap}
use Rattle.poly_shapes.specs.Rectangle.{point}
use Rattle.poly_shapes.specs.Outline.{edges, line}
use Rattle.poly_shapes.specs.Fill.{winding, crossings}
use Rattle.poly_shapes.specs.Stroke.{strokes}
use Rattle.svg_shapes.specs.declared.boxes.FineBox.{FineBox}
use Rattle.svg_shapes.specs.declared.rect.RoundRect.{RoundRect}
use Rattle.svg_shapes.specs.declared.ellipse.Ellipse.{Ellipse as Oval}
use Rattle.svg_shapes.specs.declared.shape.Shape.{Shape}
use Rattle.svg_shapes.specs.declared.shape.Shape.TheVariants.{Path, Polygon, Polyline, Line, Rect, Circle, Ellipse, Boxes}
use Rattle.svg_shapes.specs.Measures.{twice}
use Rattle.svg_shapes.specs.Rects.{rect_of, rounded, grown_rect, shrunk_rect}
use Rattle.svg_shapes.specs.Ellipses.{ellipse_of, grown_ellipse, shrunk_ellipse}
use Rattle.svg_shapes.specs.Shapes.{box_of}

-- whether a point is inside the fill: where the winding isn't 0, or where the crossings are odd
abbrev pub is_filled : FillRule → List Segment → (x y : ℤ) → Bool
is_filled NonZero edges x y = not (int_eq (winding edges x y) (pos 0))
is_filled EvenOdd edges x y = crossings edges x y % 2 == 1

-- whether two sides or radii are positive, so that neither disables a shape
abbrev pub are_positive : (across down : ℤ) → Bool
are_positive across down = int_lt (pos 0) across && int_lt (pos 0) down

-- whether a rect in half fine units holds a point in fine units
abbrev pub rect_holds : RoundRect → (x y : ℤ) → Bool
rect_holds rect x y = in_rounded (rounded rect) (twice x) (twice y)

-- whether a point is in the interior of a rect
abbrev pub is_in_rect : FineBox → (rx ry : ℤ) → (x y : ℤ) → Bool
is_in_rect box rx ry x y = are_positive box.w box.h && rect_holds (rect_of box rx ry) x y

-- whether the band of a stroke round a rect holds a point
abbrev pub rect_band_holds : (width : ℕ) → RoundRect → (x y : ℤ) → Bool
rect_band_holds width rect x y = rect_holds (grown_rect width rect) x y && not (rect_holds (shrunk_rect width rect) x y)

-- whether a point is on the perimeter of a rect
abbrev pub is_on_rect : FineBox → (rx ry : ℤ) → (width : ℕ) → (x y : ℤ) → Bool
is_on_rect box rx ry width x y =
    (are_positive box.w box.h && nat_lt 0 width) && rect_band_holds width (rect_of box rx ry) x y

-- whether an ellipse in half fine units holds a point in fine units
abbrev pub is_in_ellipse : Oval → (x y : ℤ) → Bool
is_in_ellipse e x y =
    are_positive e.rx e.ry && ellipse_holds e.cx e.cy (record { x = e.rx; y = e.ry }) (twice x) (twice y)

-- whether the band of a stroke round an ellipse holds a point
abbrev pub ellipse_band_holds : (width : ℕ) → Oval → (x y : ℤ) → Bool
ellipse_band_holds width e x y =
    is_in_ellipse (grown_ellipse width e) x y && not (is_in_ellipse (shrunk_ellipse width e) x y)

-- whether a point is on the perimeter of an ellipse
abbrev pub is_on_ellipse : Oval → (width : ℕ) → (x y : ℤ) → Bool
is_on_ellipse e width x y = (are_positive e.rx e.ry && nat_lt 0 width) && ellipse_band_holds width e x y

-- whether a box holds a point, and whether some box does
abbrev pub is_in_box : (x y : ℤ) → FineBox → Bool
is_in_box x y box =
    (int_le box.x x && int_lt x (box.x +ℤ box.w)) && (int_le box.y y && int_lt y (box.y +ℤ box.h))

abbrev pub is_in_boxes : List FineBox → (x y : ℤ) → Bool
is_in_boxes boxes x y = list_any (is_in_box x y) boxes

-- whether the interior of a shape holds a point
unfoldable pub is_in_interior : Shape → FillRule → (x y : ℤ) → Bool
is_in_interior (Path outline) rule x y = is_filled rule (edges outline) x y
is_in_interior (Polygon outline) rule x y = is_filled rule (edges outline) x y
is_in_interior (Polyline outline) rule x y = is_filled rule (edges outline) x y
is_in_interior (Line x1 y1 x2 y2) rule x y = false
is_in_interior (Rect left top w h rx ry) rule x y = is_in_rect (box_of left top w h) rx ry x y
is_in_interior (Circle cx cy r) rule x y = is_in_ellipse (ellipse_of cx cy r r) x y
is_in_interior (Ellipse cx cy rx ry) rule x y = is_in_ellipse (ellipse_of cx cy rx ry) x y
is_in_interior (Boxes boxes) rule x y = is_in_boxes boxes x y

-- whether the perimeter holds a point: whether a stroke of a width paints it
unfoldable pub is_on_perimeter : Shape → (width : ℕ) → Cap → (x y : ℤ) → Bool
is_on_perimeter (Path outline) width ends x y = strokes outline width ends x y
is_on_perimeter (Polygon outline) width ends x y = strokes outline width ends x y
is_on_perimeter (Polyline outline) width ends x y = strokes outline width ends x y
is_on_perimeter (Line x1 y1 x2 y2) width ends x y = strokes (line (point x1 y1) (point x2 y2)) width ends x y
is_on_perimeter (Rect left top w h rx ry) width ends x y = is_on_rect (box_of left top w h) rx ry width x y
is_on_perimeter (Circle cx cy r) width ends x y = is_on_ellipse (ellipse_of cx cy r r) width x y
is_on_perimeter (Ellipse cx cy rx ry) width ends x y = is_on_ellipse (ellipse_of cx cy rx ry) width x y
is_on_perimeter (Boxes boxes) width ends x y = false
