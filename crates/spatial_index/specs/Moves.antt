-- What one item's change does to a grid.
use Rattle.std.specs.Prelude.{◌≡◌, ◌≢◌, ℕ, ◌+◌, ◌*◌, ◌≤◌, ◌<◌, ◌==◌, if◌then◌else◌, Bool, List, [], length, slice_index_or, All}
use Rattle.fractions.specs.declared.rect.Rect.{Rect}
use Rattle.spatial_index.specs.declared.change.Change.{Change}
use Rattle.spatial_index.specs.Cells.{IsCell, IsSide, line_count, cell_number, level_of, is_met}
use Rattle.spatial_index.specs.Contents.{GridState, cell_at, times, once_if, StandsBy, StandsAlike}

-- ten levels, each with all its cells
pub record IsGrid (grid : GridState) : Type 0 where
  pub width : IsSide grid.region.width
  pub height : IsSide grid.region.height
  pub levels : length grid.levels ≡ 10
  pub cells : (level : ℕ) → level ≤ 9 → length (slice_index_or grid.levels level []) ≡ line_count level grid.region.height * line_count level grid.region.width

-- the level and the numbers of the cells that bounds meet
pub record IsPlan (grid : GridState) (bounds : Rect) (level : ℕ) (numbers : List ℕ) : Type 0 where
  pub inside : level ≤ 9
  pub at : level ≡ level_of bounds
  pub met : (column row : ℕ) → column < line_count level grid.region.width → times (cell_number grid.region.width level column row) numbers ≡ once_if (is_met bounds level column row)
  pub within : All (λ number. number < line_count level grid.region.height * line_count level grid.region.width) numbers

-- an item counts once in a cell that is met, and every other item not at all
abbrev pub moved_if : Bool → (item other : ℕ) → ℕ
moved_if met item other = if item == other then once_if met else 0

pub record PutsIn (old new : GridState) (item : ℕ) (bounds : Rect) : Type 0 where
  pub region : new.region ≡ old.region
  pub items : (level column row : ℕ) → IsCell old.region level column row → (other : ℕ) → times other (cell_at new level column row).items ≡ times other (cell_at old level column row).items + moved_if (is_met bounds level column row) item other
  pub spare : (level column row : ℕ) → IsCell old.region level column row → (cell_at new level column row).spare + once_if (is_met bounds level column row) ≡ (cell_at old level column row).spare

pub record TakesOut (old new : GridState) (item : ℕ) (bounds : Rect) : Type 0 where
  pub region : new.region ≡ old.region
  pub items : (level column row : ℕ) → IsCell old.region level column row → (other : ℕ) → times other (cell_at new level column row).items + moved_if (is_met bounds level column row) item other ≡ times other (cell_at old level column row).items
  pub spare : (level column row : ℕ) → IsCell old.region level column row → (cell_at new level column row).spare ≡ (cell_at old level column row).spare

-- every cell keeps its items, in their order
pub record KeepsItems (old new : GridState) : Type 0 where
  pub region : new.region ≡ old.region
  pub items : (level column row : ℕ) → IsCell old.region level column row → (cell_at new level column row).items ≡ (cell_at old level column row).items

-- each cell that the bounds meet has no room that was promised, and every other one as much as before
pub record HasNoRoomFor (old new : GridState) (bounds : Rect) : Type 0 where
  pub spare : (level column row : ℕ) → IsCell old.region level column row → (cell_at new level column row).spare ≡ (if is_met bounds level column row then 0 else (cell_at old level column row).spare)

-- each cell that the bounds meet has room for one item more
pub record HasMoreRoom (old new : GridState) (bounds : Rect) : Type 0 where
  pub spare : (level column row : ℕ) → IsCell old.region level column row → (cell_at new level column row).spare ≡ (cell_at old level column row).spare + once_if (is_met bounds level column row)

-- each cell that the bounds meet has room for an item
abbrev pub HasRoomFor : GridState → Rect → Type 0
HasRoomFor grid bounds =
    (level column row : ℕ) → IsCell grid.region level column row → once_if (is_met bounds level column row) ≤ (cell_at grid level column row).spare

-- the one item goes from its old cells to its new ones, and takes no more room than it was promised
pub record Moves (old new : GridState) (change : Change) : Type 0 where
  pub region : new.region ≡ old.region
  pub moved : StandsBy new change.item change.new
  pub others : (item : ℕ) → change.item ≢ item → StandsAlike old new item
  pub spare : (level column row : ℕ) → IsCell old.region level column row → (cell_at old level column row).spare ≤ (cell_at new level column row).spare + once_if (is_met change.new level column row)
