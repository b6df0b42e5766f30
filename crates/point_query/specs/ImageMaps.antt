-- The area of an image map in the place of its image (HTML, "Image map processing model").
use Rattle.std.specs.Prelude.{ℕ, Option, None, Some, slice_get, if◌then◌else◌, ℤ, pos, ◌+ℤ◌, ◌-ℤ◌, ◌*ℤ◌}
use Rattle.std.specs.Option.{option_and_then}
use Rattle.corner_shapes.specs.Held.{in_rounded}
use Rattle.box_tree.specs.declared.form.Form.{Form}
use Rattle.box_tree.specs.declared.form.Form.TheVariants.{Outline, Cover, View, Port, MapName}
use Rattle.box_tree.specs.declared.piece.Piece.{Piece}
use Rattle.box_tree.specs.Forest.{Label}
use Rattle.box_tree.specs.Contents.{Contents}
use Rattle.box_tree.specs.Covers.{first_cover}
use Rattle.spaces.specs.declared.space.FinePoint.{FinePoint}
use Rattle.spaces.specs.Spaces.{top_border, left_border}
use Rattle.scroll_clip.specs.Curves.{padding_curve}

-- the map that an image names, where it names one; no map has the name 0
abbrev pub map_named : Option Form → Option ℕ
map_named None = None
map_named (Some (Outline shape)) = None
map_named (Some (Cover area)) = None
map_named (Some (View view)) = None
map_named (Some (Port port)) = None
map_named (Some (MapName map)) = Some map

-- a coordinate in fine units, counted from an edge of a box with the border there, both in units
abbrev pub past_border : (edge border : ℤ) → ℤ → ℤ
past_border edge border at = at -ℤ (pos 64 *ℤ (edge +ℤ border))

-- the first area of a map that covers a local point of an image with this box, counted from the padding corner of the box:
-- only where the padding curve of the box holds the point
abbrev pub area_in : Contents → Label → Piece → ℕ → FinePoint → Option ℕ
area_in page n box map at =
    if in_rounded (padding_curve n box) at.x at.y
    then first_cover page map (past_border box.l (left_border n) at.x) (past_border box.t (top_border n) at.y)
    else None

-- the area at a local point of an image that has a box and names a map
abbrev pub area_at : Contents → Label → FinePoint → Option ℕ
area_at page n at = option_and_then (λ box. option_and_then (λ map. area_in page n box map at) (map_named n.form)) (slice_get n.boxes 0)

-- the same where there is a local point
abbrev pub area_under : Contents → Label → Option FinePoint → Option ℕ
area_under page n at = option_and_then (area_at page n) at
