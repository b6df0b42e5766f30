-- The bounds of an item in the viewport (own): those of the page and of no point.
use Rattle.std.specs.Prelude.{Option, None, Some, slice_get, Bool, if◌then◌else◌, ℤ, pos, ◌+ℤ◌, unsigned_abs}
use Rattle.std.specs.Option.{option_map, option_map_or, option_and_then}
use Rattle.std.specs.Ordering.{int_eq}
use Rattle.fractions.specs.declared.rect.Rect.{Rect}
use Rattle.affine.specs.declared.map.Parts.{Parts}
use Rattle.affine.specs.Point.{determinant, floor_of}
use Rattle.affine.specs.Hull.{hull_of, no_rect, shared_part}
use Rattle.poly_shapes.specs.declared.point.Bounds.{Bounds}
use Rattle.svg_shapes.specs.declared.shape.Shape.{Shape}
use Rattle.svg_shapes.specs.Shapes.{shape_bounds}
use Rattle.computed_style.specs.declared.inherited.Inherited.{Inherited}
use Rattle.box_tree.specs.declared.form.Form.{Form}
use Rattle.box_tree.specs.declared.form.Form.TheVariants.{Outline, Cover, View, Port, MapName}
use Rattle.box_tree.specs.declared.item.Item.{Item}
use Rattle.box_tree.specs.declared.item.Part.{Part}
use Rattle.box_tree.specs.declared.item.Part.TheVariants.{Box, Content, Outline as PartOutline}
use Rattle.box_tree.specs.declared.piece.Piece.{Piece}
use Rattle.box_tree.specs.declared.viewport.Viewport.{Viewport}
use Rattle.box_tree.specs.Forest.{Label}
use Rattle.box_tree.specs.Contents.{Contents, placed_of}
use Rattle.spaces.specs.Spaces.{space}
use Rattle.spaces.specs.Values.{values_below}

-- ---- the local rectangle of an item, in the space of its node and in whole units

abbrev pub box_rect : Piece → Rect
box_rect box = record { l = box.l; t = box.t; r = box.l +ℤ box.w; b = box.t +ℤ box.h }

-- the unit that a number of fine units lies in, of which 64 are a unit
abbrev pub unit_at : ℤ → ℤ
unit_at fine = floor_of fine (pos 64)

-- the least half open rectangle of whole units that holds bounds in fine units, with their edges
abbrev pub units_around : Bounds → Rect
units_around bounds = record {
  l = unit_at bounds.l;
  t = unit_at bounds.t;
  r = unit_at bounds.r +ℤ pos 1;
  b = unit_at bounds.b +ℤ pos 1;
}

-- the shape of a form, where it is an outline
abbrev pub shape_in : Option Form → Option Shape
shape_in None = None
shape_in (Some (Outline shape)) = Some shape
shape_in (Some (Cover area)) = None
shape_in (Some (View view)) = None
shape_in (Some (Port port)) = None
shape_in (Some (MapName map)) = None

-- the rectangle of a part of a node: a box is its own, the content of an image has that of its box, and the outline of a
-- shape has the one round the bounds of the shape at the width of its stroke. There is none without the box or the shape,
-- and none for a shape without bounds.
abbrev pub part_rect : Label → Inherited → Part → Option Rect
part_rect n values (Box place) = option_map box_rect (slice_get n.boxes place)
part_rect n values Content = option_map box_rect (slice_get n.boxes 0)
part_rect n values PartOutline =
    option_map units_around (option_and_then (λ shape. shape_bounds shape (unsigned_abs values.stroke_width)) (shape_in n.form))

abbrev pub local_rect : Contents → Item → Option Rect
local_rect page item =
    option_and_then (λ p. part_rect p.label (values_below p.above p.label) item.part) (placed_of page item.node)

-- ---- the bounds of an item in the viewport

-- the whole points of the viewport, on its right and lower edges too
abbrev pub viewport_rect : Viewport → Rect
viewport_rect viewport = record { l = pos 0; t = pos 0; r = viewport.w +ℤ pos 1; b = viewport.h +ℤ pos 1 }

-- whether a space is singular, so that no point of the viewport is a local point in it
abbrev pub is_singular : Parts → Bool
is_singular s = int_eq (determinant s) (pos 0)

-- the bounds of a rectangle in a space: what the viewport has of the least rectangle of whole units that holds the image of
-- each of its points, on its edges too; four zeros where that is nothing, and where the space is singular
abbrev pub bounds_in : Viewport → Parts → Rect → Rect
bounds_in viewport s rect = if is_singular s then no_rect else shared_part (hull_of s rect) (viewport_rect viewport)

-- the bounds of an item: those of its local rectangle in the space of its node, and four zeros without one of both
unfoldable pub view_bounds : Contents → Item → Rect
view_bounds page item =
    option_map_or (λ s. option_map_or (bounds_in page.viewport s) (local_rect page item) no_rect) (space page item.node) no_rect
