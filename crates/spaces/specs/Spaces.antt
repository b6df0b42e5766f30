-- Where a node stands: its space is the product of maps along its containing blocks, from the viewport inward
-- (CSS 2.2, 10.1; CSS Transforms 1, 3). A map is a matrix over one denominator, in lowest terms.
use Rattle.std.specs.Prelude.{ℕ, List, [], ◌∷◌, ◌++◌, map, fold, Option, Some, None, Bool, true, false, not, ◌&&◌, if◌then◌else◌, slice_index_or, ℤ, pos, neg_ℤ, ◌+ℤ◌, ◌-ℤ◌, ◌*ℤ◌}
use Rattle.std.specs.Int.{int_max}
use Rattle.std.specs.List.{list_all}
use Rattle.std.specs.Option.{option_map, option_and_then}
use Rattle.fractions.specs.declared.rect.Spot.{Spot}
use Rattle.affine.specs.declared.map.Parts.{Parts}
use Rattle.affine.specs.Map.{identity_map, translation, product}
use Rattle.affine.specs.Function.{function_map}
use Rattle.affine.specs.Point.{local_point as point_in}
use Rattle.view_boxes.specs.declared.port.Port.{Port}
use Rattle.view_boxes.specs.Views.{is_disabled, equivalent_transform}
use Rattle.box_tree.specs.declared.kind.Kind.{Kind}
use Rattle.box_tree.specs.declared.kind.Kind.TheVariants.{Block, Inline, InlineBlock, Image, Svg, Text, Map, Area, Group, Shape, Inner}
use Rattle.box_tree.specs.declared.form.Form.{Form}
use Rattle.box_tree.specs.declared.form.Form.TheVariants.{Outline, Cover, View, Port as FormPort, MapName}
use Rattle.box_tree.specs.declared.piece.Piece.{Piece}
use Rattle.box_tree.specs.declared.viewport.Viewport.{Viewport}
use Rattle.box_tree.specs.declared.containing.Holder.{Holder}
use Rattle.box_tree.specs.declared.containing.Holder.TheVariants.{Node as HolderNode, Initial, Viewport as HolderViewport}
use Rattle.box_tree.specs.Forest.{Label}
use Rattle.box_tree.specs.Contents.{Contents, placed_of}
use Rattle.box_tree.specs.Suits.{is_svg_content}
use Rattle.box_tree.specs.Used.{has_acting_transform, is_clipping, is_block_container, makes_viewport}
use Rattle.box_tree.specs.Containing.{Standing, parent_of, sought, outermost, containing_block_chain, standing_at}
use Rattle.spaces.specs.declared.space.FinePoint.{FinePoint}

-- the translation by a point of whole units
abbrev pub moving_by : Spot → Parts
moving_by by = translation by.x by.y (pos 1)

-- the widths of the borders (CSS 2.2, 8.5.1), which stand in the order top, right, bottom and left
abbrev pub top_border : Label → ℤ
top_border n = slice_index_or n.style.border 0 (pos 0)

abbrev pub right_border : Label → ℤ
right_border n = slice_index_or n.style.border 1 (pos 0)

abbrev pub bottom_border : Label → ℤ
bottom_border n = slice_index_or n.style.border 2 (pos 0)

abbrev pub left_border : Label → ℤ
left_border n = slice_index_or n.style.border 3 (pos 0)

-- the factor of a padding corner (CSS 2.2, 8.1), where a node has a box: the translation to the corner of its first box,
-- with the left and the top border
abbrev pub corner_of : Label → List Piece → List Parts
corner_of n [] = []
corner_of n (box ∷ boxes) = translation (box.l +ℤ left_border n) (box.t +ℤ top_border n) (pos 1) ∷ []

abbrev pub padding_corner : Label → List Parts
padding_corner n = corner_of n n.boxes

-- the box from which the origin of a transform is counted: the first, and without one that of zeros
abbrev pub first_box : List Piece → Piece
first_box [] = record { line = 0; l = pos 0; t = pos 0; w = pos 0; h = pos 0 }
first_box (box ∷ boxes) = box

-- what two borders leave of a side of a box, in fine units, of which 64 are a unit: a side of its padding box (CSS 2.2, 8.1),
-- and 0 where they are wider
abbrev pub padding_side : ℤ → ℤ → ℤ → ℤ
padding_side side first last = pos 64 *ℤ int_max (side -ℤ first -ℤ last) (pos 0)

-- a viewport of sides 0 without a viewBox
abbrev pub no_port : Port
no_port = record { x = pos 0; y = pos 0; w = pos 0; h = pos 0; view = None }

-- the place and the viewBox of a viewport as a form gives them: an svg is given a viewBox alone, and an svg inside it its
-- viewport with its viewBox (SVG 2, "The 'viewBox' attribute")
abbrev pub port_given : Option Form → Port
port_given None = no_port
port_given (Some (View view)) = record no_port { view = view }
port_given (Some (FormPort port)) = port
port_given (Some (Outline shape)) = no_port
port_given (Some (Cover area)) = no_port
port_given (Some (MapName map)) = no_port

-- the place and the viewBox of the viewport that an svg, or an svg inside it, makes in its own space
abbrev pub port_of : Label → Port
port_of n = port_given n.form

-- the sides of that viewport in fine units (SVG 2, "Establishing a new SVG viewport"): those of the padding box of an svg, 0
-- without a box, and those that an svg inside it is given
abbrev pub viewport_width : Label → ℤ
viewport_width n = if is_svg_content n.kind then (port_of n).w else padding_side (first_box n.boxes).w (left_border n) (right_border n)

abbrev pub viewport_height : Label → ℤ
viewport_height n = if is_svg_content n.kind then (port_of n).h else padding_side (first_box n.boxes).h (top_border n) (bottom_border n)

-- whether the rendering of what is in a node is disabled: a side of its viewport or of its viewBox is 0
abbrev pub disables : Label → Bool
disables n = makes_viewport n.kind && is_disabled (viewport_width n) (viewport_height n) (port_of n).view

-- the factor of the viewBox of a node, where it makes a viewport whose rendering isn't disabled
abbrev pub view_factor : Label → List Parts
view_factor n =
    if makes_viewport n.kind && not (disables n)
    then equivalent_transform (viewport_width n) (viewport_height n) (port_of n) ∷ []
    else []

-- whether a node of this kind is laid out: a map and its areas aren't (HTML, "Image maps")
abbrev pub is_laid_out : Kind → Bool
is_laid_out Block = true
is_laid_out Inline = true
is_laid_out InlineBlock = true
is_laid_out Image = true
is_laid_out Svg = true
is_laid_out Text = true
is_laid_out Map = false
is_laid_out Area = false
is_laid_out Group = true
is_laid_out Shape = true
is_laid_out Inner = true

-- whether what is in a node can have a space: the node is laid out, and the rendering of what is in it isn't disabled
abbrev pub shows : Label → Bool
shows n = is_laid_out n.kind && not (disables n)

-- whether a node with its ancestors has a space: it is laid out, and each of them shows what is in it
abbrev pub has_space : Standing → Bool
has_space n = is_laid_out n.label.kind && list_all shows n.above

-- the origin of a transform in the space of its node (CSS Transforms 1, 4), twice, since a centre can have half units:
-- the corner of the box and what is given, or the centre of the box
abbrev pub doubled_origin : Option (ℤ × ℤ) → Piece → Spot
doubled_origin None box = record { x = pos 2 *ℤ box.l +ℤ box.w; y = pos 2 *ℤ box.t +ℤ box.h }
doubled_origin (Some given) box = record { x = pos 2 *ℤ (box.l +ℤ given.0); y = pos 2 *ℤ (box.t +ℤ given.1) }

-- the factors of a transform around an origin: the translation by anchor and origin, each function in order, and the
-- translation back by the origin (CSS Transforms 1, 3)
abbrev pub transform_around : Label → Spot → List Parts
transform_around n doubled =
    translation (pos 2 *ℤ n.anchor.x +ℤ doubled.x) (pos 2 *ℤ n.anchor.y +ℤ doubled.y) (pos 2)
    ∷ (map function_map n.style.transform ++ translation (neg_ℤ doubled.x) (neg_ℤ doubled.y) (pos 2) ∷ [])

-- the factors of a node itself, with its parent before it: those of its transform, and of the anchor alone where it has
-- none that counts
abbrev pub own_factors : Option Label → Label → List Parts
own_factors parent n =
    if has_acting_transform parent n then transform_around n (doubled_origin n.style.origin (first_box n.boxes)) else moving_by n.anchor ∷ []

-- the initial containing block is moved by minus the scroll of the viewport
abbrev pub scrolled : Viewport → Parts
scrolled viewport = translation (neg_ℤ viewport.scroll.x) (neg_ℤ viewport.scroll.y) (pos 1)

-- the space of a containing block that is no node: the viewport doesn't move
abbrev pub outer_space : Viewport → Holder → Parts
outer_space viewport Initial = scrolled viewport
outer_space viewport HolderViewport = identity_map
outer_space viewport (HolderNode id) = identity_map

-- the factor of the scroll of a node (CSS Overflow 3, 2; CSSOM View, 4), with its parent before it, where it clips and is a
-- block container: the translation by minus its scroll
abbrev pub scroll_factor : Option Label → Label → List Parts
scroll_factor parent n =
    if is_clipping parent n && is_block_container parent n
    then translation (neg_ℤ n.scroll.x) (neg_ℤ n.scroll.y) (pos 1) ∷ []
    else []

-- the factors of a node as a containing block for what it holds, with its parent before it: its padding corner, its scroll,
-- and its viewBox
abbrev pub inner_factors : Option Label → Label → List Parts
inner_factors parent n = padding_corner n ++ (scroll_factor parent n ++ view_factor n)

abbrev pub holder_factors : Option Standing → List Parts
holder_factors None = []
holder_factors (Some holder) = inner_factors (parent_of holder.above) holder.label

-- the factors of the space of a node after the space of its containing block: those of the containing block, where that
-- is a node, and those of the node itself
abbrev pub space_factors : Option Standing → Standing → List Parts
space_factors holder n = holder_factors holder ++ own_factors (parent_of n.above) n.label

-- the space of a node with these containing blocks, nearest first: that of the nearest, and then its factors in order
abbrev pub space_along : Viewport → Standing → List Standing → Parts
space_along viewport n [] = fold product (outer_space viewport (outermost (sought n.label))) (space_factors None n)
space_along viewport n (holder ∷ holders) = fold product (space_along viewport holder holders) (space_factors (Some holder) n)

-- the space of a node with its ancestors, where it has one
abbrev pub space_of : Viewport → Standing → Option Parts
space_of viewport n = if has_space n then Some (space_along viewport n (containing_block_chain n)) else None

-- the space of the node of an id
abbrev pub space : Contents → ℕ → Option Parts
space page id = option_and_then (λ p. space_of page.viewport (standing_at p)) (placed_of page id)

-- two numbers as a point in fine units
abbrev pub fine_point : ℤ × ℤ → FinePoint
fine_point at = record { x = at.0; y = at.1 }

-- a point of the viewport in a space: 64 times its exact preimage, rounded down, in fine units; none where there is no space,
-- and where it is singular
abbrev pub local_point_in : Option Parts → ℤ → ℤ → Option FinePoint
local_point_in space x y = option_map fine_point (option_and_then (λ s. point_in s x y) space)

-- the same in the space of the node of an id
abbrev pub local_point : Contents → ℕ → ℤ → ℤ → Option FinePoint
local_point page id x y = local_point_in (space page id) x y
