-- A region of whole units is cut into square cells, in ten levels. The cells of level 0 have a side of 2^12 units, and
-- those of each further level are twice as long. A level's cells are numbered row by row.
use Rattle.std.specs.Prelude.{ℕ, zero, suc, ◌+◌, ◌-◌, ◌*◌, ◌/◌, ◌^◌, ◌<◌, ◌≤◌, Bool, not, ◌&&◌, ◌||◌, ◌==◌, nat_le, int_le, if◌then◌else◌, ℤ, pos, ◌+ℤ◌, ◌-ℤ◌, ◌≤ℤ◌, ◌⊎◌, ◌↔◌, ◌≡◌, IsTrue, unsigned_abs, List, [], map, flat_map}
use Rattle.std.specs.List.{range_with_len}
use Rattle.fractions.specs.declared.rect.Rect.{Rect}
use Rattle.fractions.specs.Rect.{IsEmpty, Holds}

-- the side of a level's cells, in units
abbrev pub side : (level : ℕ) → ℕ
side level = 2 ^ (12 + level)

-- the column of cells that an x lies in, and the row that a y lies in, from 0 on
abbrev pub line_of : (level : ℕ) → ℤ → ℕ
line_of level x = unsigned_abs x / side level

-- how many columns, or rows, hold the coordinates from 0 to the last one
abbrev pub line_count : (level : ℕ) → (last : ℤ) → ℕ
line_count level last = line_of level last + 1

-- the whole points from (0, 0) to (width, height)
pub record Region : Type 0 where
  pub width : ℤ
  pub height : ℤ

-- the number of a cell in its level, in a region of this width
abbrev pub cell_number : (width : ℤ) → (level column row : ℕ) → ℕ
cell_number width level column row = row * line_count level width + column

-- the region has such a cell
pub record IsCell (region : Region) (level column row : ℕ) : Type 0 where
  pub in_levels : level ≤ 9
  pub in_columns : column < line_count level region.width
  pub in_rows : row < line_count level region.height

-- the bounds hold no point
abbrev pub is_empty : Rect → Bool
is_empty bounds = int_le bounds.r bounds.l || int_le bounds.b bounds.t

-- the side of the level's cells is at least the width and the height of the bounds
abbrev pub is_large_enough : Rect → (level : ℕ) → Bool
is_large_enough bounds level =
    int_le (bounds.r -ℤ bounds.l) (pos (side level)) && int_le (bounds.b -ℤ bounds.t) (pos (side level))

-- the first level that is large enough, of this one and so many more; or the last of them
unfoldable pub least_level : Rect → (level more : ℕ) → ℕ
least_level bounds level zero = level
least_level bounds level (suc more) =
    if is_large_enough bounds level then level else least_level bounds (level + 1) more

-- the level of bounds: the least one of 0 to 9 that is large enough; of empty ones 0
unfoldable pub level_of : Rect → ℕ
level_of bounds = if is_empty bounds then 0 else least_level bounds 0 9

-- a number is at least the first and at most the last
abbrev pub is_between : (first last n : ℕ) → Bool
is_between first last n = nat_le first n && nat_le n last

-- bounds meet a cell of their level: its column and its row lie between those of their first and last points
unfoldable pub is_met : Rect → (level column row : ℕ) → Bool
is_met bounds level column row =
    not (is_empty bounds)
    && ((level == level_of bounds)
    && (is_between (line_of level bounds.l) (line_of level (bounds.r -ℤ pos 1)) column
    && is_between (line_of level bounds.t) (line_of level (bounds.b -ℤ pos 1)) row))

-- the numbers from the first to the last
abbrev pub numbers_between : (first last : ℕ) → List ℕ
numbers_between first last = range_with_len first (suc last - first)

-- the numbers of the cells in these columns and rows, row by row, where a row has so many cells
abbrev pub numbers_of : (columns left right top bottom : ℕ) → List ℕ
numbers_of columns left right top bottom =
    flat_map (λ row. map (λ column. row * columns + column) (numbers_between left right)) (numbers_between top bottom)

-- the numbers of the cells that bounds meet in their level, row by row, and so in rising order
unfoldable pub cells_met : (width : ℤ) → Rect → List ℕ
cells_met width bounds =
    if is_empty bounds then []
    else (let level = level_of bounds in
    numbers_of (line_count level width) (line_of level bounds.l) (line_of level (bounds.r -ℤ pos 1)) (line_of level bounds.t) (line_of level (bounds.b -ℤ pos 1)))

-- every point of the bounds is one of the region
pub record IsInside (region : Region) (bounds : Rect) : Type 0 where
  pub from_left : pos 0 ≤ℤ bounds.l
  pub from_top : pos 0 ≤ℤ bounds.t
  pub to_right : bounds.r ≤ℤ (region.width +ℤ pos 1)
  pub to_bottom : bounds.b ≤ℤ (region.height +ℤ pos 1)

abbrev pub IsEmptyOrInside : Region → Rect → Type 0
IsEmptyOrInside region bounds = IsEmpty bounds ⊎ IsInside region bounds

-- a cell of the level of the bounds is one that they meet just where they hold a point that lies in it
abbrev pub AreCellsOfPoints : Rect → Type 0
AreCellsOfPoints bounds =
    (column row : ℕ) → IsTrue (is_met bounds (level_of bounds) column row) ↔ ((x : ℤ) × (y : ℤ) × Holds bounds x y × (line_of (level_of bounds) x ≡ column) × (line_of (level_of bounds) y ≡ row))

-- a width or a height that a region may have
pub record IsSide (length : ℤ) : Type 0 where
  pub least : pos 1 ≤ℤ length
  pub greatest : length ≤ℤ pos (2 ^ 20)

-- the highest region of a width, and the largest region
abbrev pub highest_of : (width : ℤ) → Region
highest_of width = record { width = width; height = pos (2 ^ 20) }

abbrev pub largest : Region
largest = highest_of (pos (2 ^ 20))
