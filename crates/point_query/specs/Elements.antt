-- Which elements lie under a point of the viewport (CSSOM View, `elementsFromPoint`).
use Rattle.std.specs.Prelude.{ℕ, ◌-◌, length, slice_get, List, [], ◌∷◌, ◌++◌, map, reverse, Option, Bool, false, not, ◌&&◌, if◌then◌else◌, unwrap_or, ◌==◌, ℤ, pos, int_le}
use Rattle.std.specs.Option.{option_map_or}
use Rattle.std.specs.List.{filter}
use Rattle.computed_style.specs.declared.inherited.Inherited.{Inherited}
use Rattle.computed_style.specs.PointerEvents.{box_is_target}
use Rattle.corner_shapes.specs.Held.{in_rounded}
use Rattle.box_tree.specs.declared.kind.Kind.{Kind}
use Rattle.box_tree.specs.declared.kind.Kind.TheVariants.{Block, Inline, InlineBlock, Image, Svg, Text, Map, Area, Group, Shape, Inner}
use Rattle.box_tree.specs.declared.item.Item.{Item}
use Rattle.box_tree.specs.declared.item.Part.{Part}
use Rattle.box_tree.specs.declared.item.Part.TheVariants.{Box, Content, Outline}
use Rattle.box_tree.specs.declared.viewport.Viewport.{Viewport}
use Rattle.box_tree.specs.Forest.{Label, roots_of}
use Rattle.box_tree.specs.Contents.{Contents, placed_of, parent_id}
use Rattle.spaces.specs.declared.space.FinePoint.{FinePoint}
use Rattle.spaces.specs.Spaces.{local_point}
use Rattle.spaces.specs.Values.{values_below}
use Rattle.scroll_clip.specs.Curves.{border_curve, padding_curve}
use Rattle.scroll_clip.specs.Clips.{inside_clips}
use Rattle.point_query.specs.ImageMaps.{area_under}
use Rattle.point_query.specs.Outlines.{outline_admits}
use Rattle.stacking.specs.Painting.{layer}
use Rattle.stacking.specs.OnPage.{of_node}

-- The rows of admission, one for each sort of item: whether its area holds the local point of its node, and whether the
-- values of the node let it be a target (SVG 2, "The 'pointer-events' property"; CSS 2.2, 11.2). The area of a box is its
-- rounded border box, that of the content of an image the padding curve of its box (CSS Backgrounds and Borders 3, "Corner
-- Clipping"); the outline of a shape has its interior and its perimeter.
abbrev pub part_admits : Label → Inherited → FinePoint → Part → Bool
part_admits n values at (Box place) =
    box_is_target values && option_map_or (λ box. in_rounded (border_curve n box) at.x at.y) (slice_get n.boxes place) false
part_admits n values at Content =
    box_is_target values && option_map_or (λ box. in_rounded (padding_curve n box) at.x at.y) (slice_get n.boxes 0) false
part_admits n values at Outline = outline_admits n values at

-- whether the row of an item holds of its node, of what that inherits, and of its local point, where it has one
abbrev pub row_holds : Contents → ℤ → ℤ → Item → Bool
row_holds page x y item =
    option_map_or (λ p. option_map_or (λ at. part_admits p.label (values_below p.above p.label) at item.part) (local_point page item.node x y) false) (placed_of page item.node) false

-- whether an item is admitted at a point of the viewport: its row holds, and the point lies inside the clips of its node
abbrev pub admits : Contents → ℤ → ℤ → Item → Bool
admits page x y item = row_holds page x y item && inside_clips page item.node x y

-- the element of a node of this kind, by the ids of its parent and of itself, and of an area in its place, where there is
-- one: a text has that of its parent, and an image gives way to the area
abbrev pub element_as : Kind → (parent own : ℕ) → (area : Option ℕ) → ℕ
element_as Block parent own area = own
element_as Inline parent own area = own
element_as InlineBlock parent own area = own
element_as Image parent own area = unwrap_or area own
element_as Svg parent own area = own
element_as Text parent own area = parent
element_as Map parent own area = own
element_as Area parent own area = own
element_as Group parent own area = own
element_as Shape parent own area = own
element_as Inner parent own area = own

-- the element of an item at a point of the viewport: its node; for the box of a text the parent of that; and for an item of
-- an image the area in its place at the local point
abbrev pub element_of : Contents → ℤ → ℤ → Item → ℕ
element_of page x y item =
    option_map_or
    (λ p. element_as p.label.kind (parent_id p.above) p.label.id (area_under page p.label (local_point page item.node x y)))
    (placed_of page item.node)
    item.node

-- each element at its first place only
abbrev pub each_once : List ℕ → List ℕ
each_once [] = []
each_once (id ∷ ids) = id ∷ filter (λ other. not (other == id)) (each_once ids)

-- whether the last member is this one
abbrev pub ends_with : ℕ → List ℕ → Bool
ends_with root ids = option_map_or (λ last. last == root) (slice_get ids (length ids - 1)) false

-- the root at the end, unless it is there already
abbrev pub then_root : ℕ → List ℕ → List ℕ
then_root root ids = if ends_with root ids then ids else ids ++ root ∷ []

-- whether the viewport holds a point, its right and lower edges too
abbrev pub is_inside : Viewport → ℤ → ℤ → Bool
is_inside viewport x y = (int_le (pos 0) x && int_le x viewport.w) && (int_le (pos 0) y && int_le y viewport.h)

-- the elements of those of some items that are admitted at a point, in their order
abbrev pub elements_of : Contents → ℤ → ℤ → List Item → List ℕ
elements_of page x y items = map (element_of page x y) (filter (admits page x y) items)

-- the elements from the point, from top to bottom, where these ids are the root's or none
abbrev pub elements_with : Contents → ℤ → ℤ → List ℕ → List ℕ
elements_with page x y [] = []
elements_with page x y (root ∷ others) = then_root root (each_once (elements_of page x y (reverse (of_node layer page root))))

-- the elements from the point: none outside the viewport or without a root; else the painting walk reversed, kept
-- where admitted, each item turned into its element, each element once, and then the root
abbrev pub elements_from_point : Contents → ℤ → ℤ → List ℕ
elements_from_point page x y = if is_inside page.viewport x y then elements_with page x y (roots_of page.tree) else []

-- the element from the point (CSSOM View, `elementFromPoint`): the first of them, and none where there is none
abbrev pub element_from_point : Contents → ℤ → ℤ → Option ℕ
element_from_point page x y = slice_get (elements_from_point page x y) 0
