-- What the edits of one level do to the lists of its cells. A number that stands in `numbers` stands there once, but
-- nothing here rests on it: a cell is edited as often as its number stands there.
use Rattle.std.specs.Prelude.{◌≡◌, ℕ, ◌+◌, ◌≤◌, ◌<◌, ◌==◌, All, List, length, slice_index_or, if◌then◌else◌}
use Rattle.spatial_index.specs.Contents.{CellState, empty_cell, times}

-- the cell with a number
abbrev pub nth_cell : List CellState → ℕ → CellState
nth_cell cells number = slice_index_or cells number empty_cell

-- each is the number of a cell
abbrev pub AreIn : List CellState → List ℕ → Type 0
AreIn cells numbers = All (λ number. number < length cells) numbers

-- each cell has room for as many items as its number stands there
abbrev pub HaveRoom : List CellState → List ℕ → Type 0
HaveRoom cells numbers = (number : ℕ) → times number numbers ≤ (nth_cell cells number).spare

-- the item stands in each cell at least as often as its number stands there
abbrev pub Stand : List CellState → List ℕ → (item : ℕ) → Type 0
Stand cells numbers item = (number : ℕ) → times number numbers ≤ times item (nth_cell cells number).items

-- an item counts as often as the cells' numbers stand there, and every other item not at all
abbrev pub times_moved : (numbers : List ℕ) → (item number other : ℕ) → ℕ
times_moved numbers item number other = if item == other then times number numbers else 0

pub record HasSameItems (old new : List CellState) : Type 0 where
  pub count : length new ≡ length old
  pub items : (number : ℕ) → (nth_cell new number).items ≡ (nth_cell old number).items

-- what was promised to the cells whose numbers stand there is taken back
pub record HasForgotten (old new : List CellState) (numbers : List ℕ) : Type 0 where
  pub spare : (number : ℕ) → (nth_cell new number).spare ≡ (if times number numbers == 0 then (nth_cell old number).spare else 0)

pub record HasPromised (old new : List CellState) (numbers : List ℕ) : Type 0 where
  pub spare : (number : ℕ) → (nth_cell new number).spare ≡ (nth_cell old number).spare + times number numbers

pub record HasPut (old new : List CellState) (numbers : List ℕ) (item : ℕ) : Type 0 where
  pub count : length new ≡ length old
  pub items : (number other : ℕ) → times other (nth_cell new number).items ≡ times other (nth_cell old number).items + times_moved numbers item number other
  pub spare : (number : ℕ) → (nth_cell new number).spare + times number numbers ≡ (nth_cell old number).spare

pub record HasTaken (old new : List CellState) (numbers : List ℕ) (item : ℕ) : Type 0 where
  pub count : length new ≡ length old
  pub items : (number other : ℕ) → times other (nth_cell new number).items + times_moved numbers item number other ≡ times other (nth_cell old number).items
  pub spare : (number : ℕ) → (nth_cell new number).spare ≡ (nth_cell old number).spare
