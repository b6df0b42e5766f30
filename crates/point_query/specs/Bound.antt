-- How many steps a query takes at a point inside the viewport, at most and at least (own).
use Rattle.std.specs.Prelude.{ℕ, ◌+◌, ◌*◌, length, Option, ℤ}
use Rattle.std.specs.Option.{option_map_or}
use Rattle.std.specs.List.{sum_by}
use Rattle.box_tree.specs.declared.form.Form.{Form}
use Rattle.box_tree.specs.declared.item.Item.{Item}
use Rattle.box_tree.specs.Forest.{roots_of}
use Rattle.box_tree.specs.Contents.{Contents, placed_of, depth_below}
use Rattle.box_tree.specs.Covers.{areas_of}
use Rattle.point_query.specs.ImageMaps.{map_named}
use Rattle.point_query.specs.Near.{near_items}

-- the depth of the node of an id, that of the root being 1; 0 for an id that isn't in the page
abbrev pub depth_of : Contents → ℕ → ℕ
depth_of page id = option_map_or (λ p. depth_below p.above) (placed_of page id) 0

-- how many areas the map has that a form names; 0 where it names none
abbrev pub areas_named : Contents → Option Form → ℕ
areas_named page form = option_map_or (λ map. length (roots_of (areas_of page map))) (map_named form) 0

-- how many areas the map has that the node of an id names
abbrev pub area_count : Contents → ℕ → ℕ
area_count page id = option_map_or (λ p. areas_named page p.label.form) (placed_of page id) 0

-- the most steps that one item near the point takes
abbrev pub member_bound : Contents → Item → ℕ
member_bound page item = 12 + 4 * depth_of page item.node + area_count page item.node

-- the most steps that a query takes: one for each level of the grid, and those of each item near the point
abbrev pub query_bound : Contents → (x y : ℤ) → ℕ
query_bound page x y = 10 + sum_by (member_bound page) (near_items page x y)

-- the fewest steps that a query takes: one for each level of the grid, and one for each item near the point
abbrev pub query_least : Contents → (x y : ℤ) → ℕ
query_least page x y = 10 + length (near_items page x y)
