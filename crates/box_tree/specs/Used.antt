-- The used values of a node: each sentence is a function of the parent, none for the root, and of the node itself.
use Rattle.std.specs.Prelude.{Option, None, Some, Bool, true, false, not, ◌&&◌, ◌||◌, if◌then◌else◌, nat_lt, length, is_some, unwrap_or, ℤ, pos}
use Rattle.computed_style.specs.declared.style.Overflow.{Overflow}
use Rattle.computed_style.specs.declared.style.Overflow.TheVariants.{Visible, Auto, Clip}
use Rattle.computed_style.specs.declared.style.Position.{Position}
use Rattle.computed_style.specs.declared.style.Position.TheVariants.{Static, Relative, Absolute, Fixed}
use Rattle.box_tree.specs.declared.form.Form.{Form}
use Rattle.box_tree.specs.declared.form.Form.TheVariants.{Outline, Cover, View, Port, MapName}
use Rattle.box_tree.specs.declared.kind.Kind.{Kind}
use Rattle.box_tree.specs.declared.kind.Kind.TheVariants.{Block, Inline, InlineBlock, Image, Svg, Text, Map, Area, Group, Shape, Inner}
use Rattle.box_tree.specs.Forest.{Label}
use Rattle.box_tree.specs.Suits.{is_svg_content}

-- the position that counts (CSS 2.2, 9.3.1): a text has none of its own, so it is static, and so are SVG content, to which
-- the property doesn't apply (SVG 2, 6.7), and the map and the areas of an image map
abbrev pub position_as : Kind → Position → Position
position_as Block position = position
position_as Inline position = position
position_as InlineBlock position = position
position_as Image position = position
position_as Svg position = position
position_as Text position = Static
position_as Map position = Static
position_as Area position = Static
position_as Group position = Static
position_as Shape position = Static
position_as Inner position = Static

abbrev pub used_position : Label → Position
used_position n = position_as n.kind n.style.position

-- out of flow by its position (CSS 2.2, 9.6)
abbrev pub takes_out : Position → Bool
takes_out Static = false
takes_out Relative = false
takes_out Absolute = true
takes_out Fixed = true

-- a node is taken out where its position is absolute or fixed
abbrev pub is_taken_out : Option Label → Label → Bool
is_taken_out parent n = takes_out (used_position n)

-- whether a node of this kind can float: a CSS node, and not SVG content (SVG 2, 6.7)
abbrev pub may_float : Kind → Bool
may_float Block = true
may_float Inline = true
may_float InlineBlock = true
may_float Image = true
may_float Svg = true
may_float Text = true
may_float Map = false
may_float Area = false
may_float Group = false
may_float Shape = false
may_float Inner = false

-- a node floats where its float is left or right, it isn't taken out and it isn't the root (CSS 2.2, 9.7)
abbrev pub is_floating : Option Label → Label → Bool
is_floating None n = false
is_floating (Some parent) n = may_float n.kind && (n.style.floats && not (is_taken_out (Some parent) n))

-- block level by kind (CSS 2.2, 9.2.1 and 9.7), where the node leaves the flow or not, and its display is block or not:
-- blocks are, text never is, nor is what has no box; the others are where they leave the flow, and an image or an svg where
-- its display is block too
abbrev pub is_block_level_as : Kind → (leaves display_block : Bool) → Bool
is_block_level_as Block leaves display_block = true
is_block_level_as Inline leaves display_block = leaves
is_block_level_as InlineBlock leaves display_block = leaves
is_block_level_as Image leaves display_block = leaves || display_block
is_block_level_as Svg leaves display_block = leaves || display_block
is_block_level_as Text leaves display_block = false
is_block_level_as Map leaves display_block = false
is_block_level_as Area leaves display_block = false
is_block_level_as Group leaves display_block = false
is_block_level_as Shape leaves display_block = false
is_block_level_as Inner leaves display_block = false

-- a node is block level where it is the root, or by its kind; it leaves the flow where it is taken out or floats
abbrev pub is_block_level : Option Label → Label → Bool
is_block_level None n = true
is_block_level (Some parent) n =
    is_block_level_as n.kind (is_taken_out (Some parent) n || is_floating (Some parent) n) n.style.display_block

-- a block container by kind (CSS 2.2, 9.2.1), where the node is block level or not
abbrev pub is_block_container_as : Kind → (block_level : Bool) → Bool
is_block_container_as Block block_level = true
is_block_container_as Inline block_level = block_level
is_block_container_as InlineBlock block_level = true
is_block_container_as Image block_level = false
is_block_container_as Svg block_level = false
is_block_container_as Text block_level = false
is_block_container_as Map block_level = false
is_block_container_as Area block_level = false
is_block_container_as Group block_level = false
is_block_container_as Shape block_level = false
is_block_container_as Inner block_level = false

-- a block container is a block, an inline-block or a block level inline
abbrev pub is_block_container : Option Label → Label → Bool
is_block_container parent n = is_block_container_as n.kind (is_block_level parent n)

-- of an atomic kind (CSS 2.2, 9.2.2)
abbrev pub is_atomic_as : Kind → Bool
is_atomic_as Block = false
is_atomic_as Inline = false
is_atomic_as InlineBlock = true
is_atomic_as Image = true
is_atomic_as Svg = true
is_atomic_as Text = false
is_atomic_as Map = false
is_atomic_as Area = false
is_atomic_as Group = false
is_atomic_as Shape = false
is_atomic_as Inner = false

-- a node is atomic where it is an inline-block, an image or an svg that isn't block level
abbrev pub is_atomic : Option Label → Label → Bool
is_atomic parent n = is_atomic_as n.kind && not (is_block_level parent n)

-- a node is transformed where it is block level or atomic and its transform isn't none (CSS Transforms 1, 2 and 3)
abbrev pub is_transformed : Option Label → Label → Bool
is_transformed parent n = (is_block_level parent n || is_atomic parent n) && nat_lt 0 (length n.style.transform)

-- the transform of a node acts on its space where it is transformed, and in SVG content wherever it isn't none
-- (CSS Transforms 1, 2 and 3)
abbrev pub has_acting_transform : Option Label → Label → Bool
has_acting_transform parent n = is_transformed parent n || (is_svg_content n.kind && nat_lt 0 (length n.style.transform))

-- whether a node of this kind makes a viewport for what is in it (SVG 2, 8.2)
abbrev pub makes_viewport : Kind → Bool
makes_viewport Block = false
makes_viewport Inline = false
makes_viewport InlineBlock = false
makes_viewport Image = false
makes_viewport Svg = true
makes_viewport Text = false
makes_viewport Map = false
makes_viewport Area = false
makes_viewport Group = false
makes_viewport Shape = false
makes_viewport Inner = true

-- clipping by the overflow, which is at first visible (CSS 2.2, 11.1.1); where a viewport is made it is at first clipped, and
-- `auto` is as visible there (SVG 2, 3.8)
abbrev pub cuts_off : (viewport : Bool) → Option Overflow → Bool
cuts_off false None = false
cuts_off false (Some Visible) = false
cuts_off false (Some Auto) = true
cuts_off false (Some Clip) = true
cuts_off true None = true
cuts_off true (Some Visible) = false
cuts_off true (Some Auto) = false
cuts_off true (Some Clip) = true

-- whether a node has a box
abbrev pub has_box : Label → Bool
has_box n = nat_lt 0 (length n.boxes)

-- whether a node has a viewport that its form gives (SVG 2, 8.2)
abbrev pub gives_port : Option Form → Bool
gives_port None = false
gives_port (Some (Outline shape)) = false
gives_port (Some (Cover area)) = false
gives_port (Some (View view)) = false
gives_port (Some (Port port)) = true
gives_port (Some (MapName map)) = false

-- a node clips where its overflow isn't visible, it has a box or its form gives its viewport, and it makes a viewport (SVG 2, 3.8) or is a block container
-- other than the root (CSS 2.2, 11.1.1; the overflow of the root is that of the viewport)
abbrev pub is_clipping : Option Label → Label → Bool
is_clipping None n = false
is_clipping (Some parent) n =
    cuts_off (makes_viewport n.kind) n.style.overflow && ((has_box n || gives_port n.form) && (makes_viewport n.kind || is_block_container (Some parent) n))

-- not static (CSS 2.2, 9.3.2)
abbrev pub takes_offsets : Position → Bool
takes_offsets Static = false
takes_offsets Relative = true
takes_offsets Absolute = true
takes_offsets Fixed = true

-- a node is positioned where its position isn't static
abbrev pub is_positioned : Option Label → Label → Bool
is_positioned parent n = takes_offsets (used_position n)

-- fixed
abbrev pub is_fixed_at : Position → Bool
is_fixed_at Static = false
is_fixed_at Relative = false
is_fixed_at Absolute = false
is_fixed_at Fixed = true

-- whether a node of this kind can make a stacking context
abbrev pub may_make_context : Kind → Bool
may_make_context Block = true
may_make_context Inline = true
may_make_context InlineBlock = true
may_make_context Image = true
may_make_context Svg = true
may_make_context Text = false
may_make_context Map = false
may_make_context Area = false
may_make_context Group = false
may_make_context Shape = false
may_make_context Inner = false

-- a node that isn't the root or a text is a real stacking context where it is fixed, or positioned with an integer
-- z-index (CSS 2.2, 9.9.1), or its opacity is below 1 (CSS Color 3, 3.2), or it is transformed (CSS Transforms 1, 3)
abbrev pub has_context_style : Option Label → Label → Bool
has_context_style parent n =
    is_fixed_at (used_position n)
    || ((is_positioned parent n && is_some n.style.z) || (nat_lt n.style.opacity 1000 || is_transformed parent n))

-- the root is a real stacking context, and every other node but a text by its style
abbrev pub is_real_context : Option Label → Label → Bool
is_real_context None n = true
is_real_context (Some parent) n = may_make_context n.kind && has_context_style (Some parent) n

-- the level in the stacking context around: the z-index of a positioned node, where it is given, and else 0 (CSS 2.2, 9.9.1)
abbrev pub stack_level : Option Label → Label → ℤ
stack_level parent n = if is_positioned parent n then unwrap_or n.style.z (pos 0) else pos 0

-- a node is in flow where it neither floats nor is positioned nor is a real stacking context
abbrev pub is_in_flow : Option Label → Label → Bool
is_in_flow parent n = not (is_floating parent n) && (not (is_positioned parent n) && not (is_real_context parent n))
