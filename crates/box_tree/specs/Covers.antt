-- The area of an image map that a point lies in (HTML, "Image map processing model"): of the areas that cover the point, the one
-- that comes first in tree order.
use Rattle.std.specs.Prelude.{ℕ, ℤ, List, [], ◌∷◌, Option, Some, None, Bool, false, if◌then◌else◌}
use Rattle.std.specs.Option.{option_map_or}
use Rattle.image_maps.specs.Area.{covers_point}
use Rattle.box_tree.specs.declared.form.Form.{Form}
use Rattle.box_tree.specs.declared.form.Form.TheVariants.{Outline, Cover, View, Port, MapName}
use Rattle.box_tree.specs.Contents.{Contents, placed_of, node_of}
use Rattle.box_tree.specs.Forest.{Forest, End, Grow}
use Rattle.box_tree.specs.Suits.{is_map}

-- whether a form covers a point, which is counted in fine units from the padding corner of the image: that of an area may, and
-- an area without a form covers nothing
abbrev pub form_covers : (x y : ℤ) → Option Form → Bool
form_covers x y None = false
form_covers x y (Some (Outline shape)) = false
form_covers x y (Some (Cover area)) = covers_point area x y
form_covers x y (Some (View view)) = false
form_covers x y (Some (Port port)) = false
form_covers x y (Some (MapName map)) = false

-- the areas of a map: what is below the node of an id, where that is a map
abbrev pub areas_of : Contents → ℕ → Forest
areas_of page map = option_map_or (λ p. if is_map p.label.kind then p.below else End) (placed_of page map) End

-- the first of areas that covers a point
abbrev pub first_covering : (x y : ℤ) → Forest → Option ℕ
first_covering x y End = None
first_covering x y (Grow n below others) = if form_covers x y n.form then Some n.id else first_covering x y others

-- the first area of a map that covers a point
abbrev pub first_cover : Contents → ℕ → (x y : ℤ) → Option ℕ
first_cover page map x y = first_covering x y (areas_of page map)

-- the first of the nodes of these ids that covers a point: what the code asks
abbrev pub covering_among : Contents → (x y : ℤ) → List ℕ → Option ℕ
covering_among page x y [] = None
covering_among page x y (id ∷ ids) =
    if option_map_or (λ n. form_covers x y n.form) (node_of page id) false then Some id else covering_among page x y ids
