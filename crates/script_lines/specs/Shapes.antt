-- The outline of a shape that a JSON array spells (own format; the names are those of SVG 2, "Basic Shapes" and "Paths").
-- Places, sizes and radii are in fine units of 1/4096 px: places within 2^26, sizes and radii from 0 to 2^26.
use Rattle.std.specs.Prelude.{ℕ, ◌+◌, ◌^◌, ℤ, nat_le, ◌==◌, Bool, true, false, if◌then◌else◌, List, [], ◌∷◌, ◌++◌, length, Option, Some, None, option_map}
use Rattle.serde_json.specs.Data.{Data, Items, no_items, item}
use Rattle.serde_json.specs.Find.{at, as_array}
use Rattle.poly_shapes.specs.declared.point.Point.{Point}
use Rattle.poly_shapes.specs.Outline.{Outline}
use Rattle.svg_shapes.specs.declared.boxes.FineBox.{FineBox}
use Rattle.svg_shapes.specs.declared.shape.Shape.{Shape}
use Rattle.svg_shapes.specs.declared.shape.Shape.TheVariants.{Path, Polygon, Polyline, Line, Rect, Circle, Ellipse, Boxes}
use Rattle.script_lines.specs.declared.paths.Subpath.{Subpath}
use Rattle.script_lines.specs.Numbers.{◌>>=◌, coordinate, side, number_to, is_array_of}

-- two places, from a member of an array on
unfoldable pub place_at : ℕ → Data → Option (ℤ × ℤ)
place_at k d = do
  x ← at k d >>= coordinate
  y ← at (k + 1) d >>= coordinate
  Some (x, y)

-- two sizes or radii, from a member of an array on
unfoldable pub sizes_at : ℕ → Data → Option (ℤ × ℤ)
sizes_at k d = do
  across ← at k d >>= side
  down ← at (k + 1) d >>= side
  Some (across, down)

abbrev pub point_at : Data → Data → Option Point
point_at x y = do
  across ← coordinate x
  down ← coordinate y
  Some (record { x = across; y = down })

-- each two items as a point; an odd number of them is none
abbrev pub each_point : Items → Option (List Point)
each_point no_items = Some []
each_point (item x no_items) = None
each_point (item x (item y more)) = do
  point ← point_at x y
  points ← each_point more
  Some (point ∷ points)

-- the items of a subpath, which are 1 where it is closed and else 0, and then its points
abbrev pub subpath_items : Items → Option Subpath
subpath_items no_items = None
subpath_items (item k more) = do
  closed ← number_to 1 k
  points ← each_point more
  Some (record { closed = closed == 1; points = points })

-- a subpath, which is written `[k,x,y,x,y,..]`
abbrev pub subpath_of : Data → Option Subpath
subpath_of d = as_array d >>= subpath_items

-- an outline with one subpath more, whose points come after the others; one of more than 524,288 points is none, and no line
-- is long enough for it
unfoldable pub with_subpath : Outline → Subpath → Option Outline
with_subpath outline subpath =
    if nat_le (length outline.points + length subpath.points) (2 ^ 19)
    then Some (record {
      points = outline.points ++ subpath.points;
      subs = outline.subs ++ record { first = length outline.points; count = length subpath.points; closed = subpath.closed } ∷ [];
    })
    else None

abbrev pub no_outline : Outline
no_outline = record { points = []; subs = [] }

-- an outline with each item as one subpath more
abbrev pub each_subpath : Outline → Items → Option Outline
each_subpath outline no_items = Some outline
each_subpath outline (item d more) = subpath_of d >>= with_subpath outline >>= (λ next. each_subpath next more)

-- a path, which is written `["path",[[k,x,y,x,y,..],..]]`
unfoldable pub path_of : Data → Option Shape
path_of d = if is_array_of 2 d then option_map Path (at 1 d >>= as_array >>= each_subpath no_outline) else None

-- an outline of one subpath
abbrev pub one_subpath : Bool → Items → Option Outline
one_subpath closed items = each_point items >>= (λ points. with_subpath no_outline (record { closed = closed; points = points }))

-- a polygon, which is written `["polygon",[x,y,..]]`: one closed subpath
unfoldable pub polygon_of : Data → Option Shape
polygon_of d = if is_array_of 2 d then option_map Polygon (at 1 d >>= as_array >>= one_subpath true) else None

-- a polyline, which is written `["polyline",[x,y,..]]`: one open subpath
unfoldable pub polyline_of : Data → Option Shape
polyline_of d = if is_array_of 2 d then option_map Polyline (at 1 d >>= as_array >>= one_subpath false) else None

abbrev pub line_numbers : Data → Option Shape
line_numbers d = do
  from ← place_at 1 d
  to ← place_at 3 d
  Some (Line from.0 from.1 to.0 to.1)

-- a line, which is written `["line",x1,y1,x2,y2]`
unfoldable pub line_of : Data → Option Shape
line_of d = if is_array_of 5 d then line_numbers d else None

abbrev pub rect_numbers : Data → Option Shape
rect_numbers d = do
  corner ← place_at 1 d
  sides ← sizes_at 3 d
  radii ← sizes_at 5 d
  Some (Rect corner.0 corner.1 sides.0 sides.1 radii.0 radii.1)

-- a rect, which is written `["rect",x,y,w,h,rx,ry]`
unfoldable pub rect_of : Data → Option Shape
rect_of d = if is_array_of 7 d then rect_numbers d else None

abbrev pub circle_numbers : Data → Option Shape
circle_numbers d = do
  centre ← place_at 1 d
  radius ← at 3 d >>= side
  Some (Circle centre.0 centre.1 radius)

-- a circle, which is written `["circle",cx,cy,r]`
unfoldable pub circle_of : Data → Option Shape
circle_of d = if is_array_of 4 d then circle_numbers d else None

abbrev pub ellipse_numbers : Data → Option Shape
ellipse_numbers d = do
  centre ← place_at 1 d
  radii ← sizes_at 3 d
  Some (Ellipse centre.0 centre.1 radii.0 radii.1)

-- an ellipse, which is written `["ellipse",cx,cy,rx,ry]`
unfoldable pub ellipse_of : Data → Option Shape
ellipse_of d = if is_array_of 5 d then ellipse_numbers d else None

abbrev pub fine_box_numbers : Data → Option FineBox
fine_box_numbers d = do
  corner ← place_at 0 d
  sides ← sizes_at 2 d
  Some (record { x = corner.0; y = corner.1; w = sides.0; h = sides.1 })

-- a box of a text, which is written `[x,y,w,h]`
unfoldable pub fine_box_of : Data → Option FineBox
fine_box_of d = if is_array_of 4 d then fine_box_numbers d else None

abbrev pub each_fine_box : Items → Option (List FineBox)
each_fine_box no_items = Some []
each_fine_box (item d more) = do
  box ← fine_box_of d
  boxes ← each_fine_box more
  Some (box ∷ boxes)

-- the boxes of a text, which are written `["boxes",[[x,y,w,h],..]]`
unfoldable pub fine_boxes_of : Data → Option Shape
fine_boxes_of d = if is_array_of 2 d then option_map Boxes (at 1 d >>= as_array >>= each_fine_box) else None
