-- Clips (CSS 2.2, 11.1.1; CSS Backgrounds and Borders 3, "Corner Clipping"): a node that clips shows what it holds only
-- inside its clip. It holds what it is a containing block of, directly or through others, and neither itself nor what lies
-- below it in the tree alone.
use Rattle.std.specs.Prelude.{ℕ, List, [], ◌∷◌, Option, Some, None, Bool, true, false, if◌then◌else◌, ℤ}
use Rattle.std.specs.Option.{option_map_or}
use Rattle.std.specs.List.{list_all}
use Rattle.corner_shapes.specs.declared.rounded.Rounded.{Rounded}
use Rattle.corner_shapes.specs.Held.{in_rounded}
use Rattle.box_tree.specs.declared.form.Form.{Form}
use Rattle.box_tree.specs.declared.form.Form.TheVariants.{Outline, Cover, View, Port, MapName}
use Rattle.box_tree.specs.declared.piece.Piece.{Piece}
use Rattle.box_tree.specs.Forest.{Label}
use Rattle.box_tree.specs.Contents.{Contents, placed_of}
use Rattle.box_tree.specs.Used.{is_clipping}
use Rattle.box_tree.specs.Containing.{Standing, parent_of, containing_block_chain, standing_at}
use Rattle.spaces.specs.declared.space.FinePoint.{FinePoint}
use Rattle.spaces.specs.Spaces.{local_point}
use Rattle.scroll_clip.specs.Curves.{padding_curve, port_curve}

-- the viewport that a form gives (SVG 2, 8.2), as a clip (SVG 2, 3.8)
abbrev pub port_clip : Option Form → Option Rounded
port_clip None = None
port_clip (Some (Outline shape)) = None
port_clip (Some (Cover area)) = None
port_clip (Some (View view)) = None
port_clip (Some (Port port)) = Some (port_curve port)
port_clip (Some (MapName map)) = None

-- the curve at which a node clips, where it does: the padding curve of its first box; of an svg inside an svg, which has no
-- box, its viewport
abbrev pub curve_by : Label → List Piece → Option Rounded
curve_by n [] = port_clip n.form
curve_by n (box ∷ boxes) = Some (padding_curve n box)

abbrev pub clipping_curve : Label → Option Rounded
clipping_curve n = curve_by n n.boxes

-- the clip that a node sets, in its own space: none where it doesn't clip
abbrev pub clip_set_by : Standing → Option Rounded
clip_set_by n = if is_clipping (parent_of n.above) n.label then clipping_curve n.label else None

-- the clip that the node of an id sets
abbrev pub clip_of : Contents → ℕ → Option Rounded
clip_of page id = option_map_or (λ p. clip_set_by (standing_at p)) (placed_of page id) None

-- whether a clip, where there is one, holds a local point; it holds no missing one
abbrev pub clip_holds : Option Rounded → Option FinePoint → Bool
clip_holds clip at = option_map_or (λ curve. option_map_or (λ a. in_rounded curve a.x a.y) at false) clip true

-- the containing blocks of the node of an id that are nodes, nearest first, itself left out
abbrev pub holders_of : Contents → ℕ → List Standing
holders_of page id = option_map_or (λ p. containing_block_chain (standing_at p)) (placed_of page id) []

-- whether what a containing block sets as its clip holds a point of the viewport, in the space of that containing block,
-- which the scroll of what it holds doesn't move
abbrev pub lets_in : Contents → ℤ → ℤ → Standing → Bool
lets_in page x y holder = clip_holds (clip_set_by holder) (local_point page holder.label.id x y)

-- whether a point of the viewport lies inside the clips of a node: each of its containing blocks, itself left out, lets it in
abbrev pub inside_clips : Contents → ℕ → ℤ → ℤ → Bool
inside_clips page id x y =
    option_map_or (λ p. list_all (lets_in page x y) (containing_block_chain (standing_at p))) (placed_of page id) true
