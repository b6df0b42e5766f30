-- Which items may lie under a point: those whose bounds in the viewport meet the cell of the point in a grid (own). The bounds
-- hold each point at which the item is admitted.
use Rattle.std.specs.Prelude.{ℕ, zero, suc, ◌++◌, ◌&&◌, int_le, int_lt, List, [], Bool, ℤ}
use Rattle.std.specs.List.{filter}
use Rattle.fractions.specs.declared.rect.Rect.{Rect}
use Rattle.spatial_index.specs.Cells.{line_of, level_of, is_met}
use Rattle.spatial_index.specs.Contents.{GridState, cell_at}
use Rattle.box_tree.specs.declared.item.Item.{Item}
use Rattle.box_tree.specs.Contents.{Contents}
use Rattle.stacking.specs.Counting.{items_in}
use Rattle.tree_edits.specs.Bounds.{view_bounds}
use Rattle.tree_edits.specs.Cells.{rect_under}

-- whether bounds meet the cell of a point in their level
abbrev pub meets_cell_at : Rect → ℤ → ℤ → Bool
meets_cell_at bounds x y = is_met bounds (level_of bounds) (line_of (level_of bounds) x) (line_of (level_of bounds) y)

-- the items of a page whose bounds meet the cell of a point, in tree order
abbrev pub near_items : Contents → ℤ → ℤ → List Item
near_items page x y = filter (λ item. meets_cell_at (view_bounds page item) x y) (items_in [] page.tree)

-- whether bounds hold a point
abbrev pub holds_at : Rect → ℤ → ℤ → Bool
holds_at bounds x y = (int_le bounds.l x && int_lt x bounds.r) && (int_le bounds.t y && int_lt y bounds.b)

-- whether the bounds that a list has under a number hold a point
abbrev pub is_held : List Rect → (x y : ℤ) → ℕ → Bool
is_held bounds x y number = holds_at (rect_under bounds number) x y

-- the members of the cells of a point in a grid, in the levels below one, level by level
abbrev pub members_below : GridState → (x y : ℤ) → ℕ → List ℕ
members_below grid x y zero = []
members_below grid x y (suc level) = members_below grid x y level ++ (cell_at grid level (line_of level x) (line_of level y)).items
