-- What stands in the cells of a grid, and what a change of bounds makes of it.
use Rattle.std.specs.Prelude.{◌≡◌, ◌≢◌, ℕ, ◌≤◌, Bool, ◌==◌, if◌then◌else◌, List, [], slice_index_or, count_by, All, AllPairs}
use Rattle.fractions.specs.declared.rect.Rect.{Rect}
use Rattle.spatial_index.specs.declared.change.Change.{Change}
use Rattle.spatial_index.specs.Cells.{Region, IsCell, cell_number, is_met}

-- a cell: the items that stand in it, and how many more it has room for
pub record CellState : Type 0 where
  pub items : List ℕ
  pub spare : ℕ

-- a grid: its region, and the cells of each level in the order of their numbers
pub record GridState : Type 0 where
  pub region : Region
  pub levels : List (List CellState)

abbrev pub empty_cell : CellState
empty_cell = record { items = []; spare = 0 }

-- the cell of a level in this column and row
unfoldable pub cell_at : GridState → (level column row : ℕ) → CellState
cell_at grid level column row =
    slice_index_or (slice_index_or grid.levels level []) (cell_number grid.region.width level column row) empty_cell

-- how often an item stands in a list
unfoldable pub times : (item : ℕ) → List ℕ → ℕ
times item items = count_by (λ other. other == item) items

abbrev pub once_if : Bool → ℕ
once_if b = if b then 1 else 0

-- the item stands once in each cell that the bounds meet, and in no other
abbrev pub StandsBy : GridState → (item : ℕ) → Rect → Type 0
StandsBy grid item bounds =
    (level column row : ℕ) → IsCell grid.region level column row → times item (cell_at grid level column row).items ≡ once_if (is_met bounds level column row)

-- the item stands in no cell
abbrev pub StandsNowhere : GridState → (item : ℕ) → Type 0
StandsNowhere grid item =
    (level column row : ℕ) → IsCell grid.region level column row → times item (cell_at grid level column row).items ≡ 0

-- the item stands in each cell of the second grid as often as in that of the first
abbrev pub StandsAlike : GridState → GridState → (item : ℕ) → Type 0
StandsAlike old new item =
    (level column row : ℕ) → IsCell old.region level column row → times item (cell_at new level column row).items ≡ times item (cell_at old level column row).items

-- how many of the changes put their item into a cell
unfoldable pub arrivals : List Change → (level column row : ℕ) → ℕ
arrivals changes level column row = count_by (λ change. is_met change.new level column row) changes

-- each cell has room for the changes that put their item into it
abbrev pub IsReserved : GridState → List Change → Type 0
IsReserved grid changes =
    (level column row : ℕ) → IsCell grid.region level column row → arrivals changes level column row ≤ (cell_at grid level column row).spare

-- no room is kept for what isn't to come: a cell into which changes put their items has room for these, whatever was
-- promised before, and every other cell as much as before
abbrev pub HasRoomForNoMore : GridState → GridState → List Change → Type 0
HasRoomForNoMore old new changes =
    (level column row : ℕ) → IsCell old.region level column row → (cell_at new level column row).spare ≡ (if arrivals changes level column row == 0 then (cell_at old level column row).spare else arrivals changes level column row)

-- no two changes are of one item
abbrev pub AreOfDistinctItems : List Change → Type 0
AreOfDistinctItems changes = AllPairs (λ one other. one.item ≢ other.item) changes

-- no change is of the item
abbrev pub AreOfOthers : (item : ℕ) → List Change → Type 0
AreOfOthers item changes = All (λ change. change.item ≢ item) changes
