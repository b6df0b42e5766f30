-- Where the items of a page stand, as contracts see it, and what an exchange of some of them asks.
use Rattle.std.specs.Prelude.{◌≡◌, ℕ, ◌<◌, ◌≤◌, List, length, Bool, true, false, Option, Some, None, All}
use Rattle.std.specs.Option.{option_map_or}
use Rattle.fractions.specs.declared.rect.Rect.{Rect}
use Rattle.affine.specs.Hull.{no_rect}
use Rattle.box_tree.specs.Contents.{Contents}
use Rattle.box_tree.specs.Numbers.{ItemsState, IsNumber}
use Rattle.spatial_index.specs.Cells.{Region, IsEmptyOrInside}
use Rattle.spatial_index.specs.declared.change.Change.{Change}
use Rattle.spatial_index.specs.Contents.{GridState, StandsBy, StandsNowhere, IsReserved, AreOfDistinctItems, AreOfOthers}
use Rattle.tree_edits.specs.Cells.{region_of, rect_under, AreBoundsOf}

-- a grid, and the bounds by which items stand in its cells, under their numbers
pub record ItemGridState : Type 0 where
  pub grid : GridState
  pub bounds : List Rect

-- the grid is over the region of the viewport, and under the number of each item stand its bounds
pub record IsItemGridOf (kept : ItemGridState) (page : Contents) (items : ItemsState) : Type 0 where
  pub region : kept.grid.region ≡ region_of page.viewport
  pub bounds : AreBoundsOf kept.bounds page items
  pub room : (number : ℕ) → IsNumber items number → number < length kept.bounds

-- every item stands as it did
pub record StandAsBefore (old new : ItemGridState) : Type 0 where
  pub region : new.grid.region ≡ old.grid.region
  pub bounds : (number : ℕ) → rect_under new.bounds number ≡ rect_under old.bounds number
  pub no_shorter : length old.bounds ≤ length new.bounds

-- a grid over a region, in which the items of some changes stand by their new bounds, and no others
pub record IsGridWith (region : Region) (changes : List Change) (grid : GridState) : Type 0 where
  pub region_is : grid.region ≡ region
  pub stands : All (λ change. StandsBy grid change.item change.new) changes
  pub no_other : (number : ℕ) → AreOfOthers number changes → StandsNowhere grid number

-- there is room in the grid for the changes, or for a viewport with new sides another grid with them
pub record IsReadyFor (changes : List Change) (region : Region) (resizes : Bool) (grid : GridState) (fresh : Option GridState) : Type 0 where
  pub reserved : fresh ≡ None → (resizes ≡ false) × IsReserved grid changes
  pub made : (other : GridState) → fresh ≡ Some other → (resizes ≡ true) × IsGridWith region changes other

-- the region of the grid that stands after an exchange: of the new one, where there is one
abbrev pub region_after : GridState → Option GridState → Region
region_after grid fresh = option_map_or (λ other. other.region) fresh grid.region

-- the changes are of distinct items, each from where it stands; and there is room for them, or a new grid with them, where no
-- other item stands
pub record MayExchangeItems (kept : ItemGridState) (changes : List Change) (fresh : Option GridState) : Type 0 where
  pub distinct : AreOfDistinctItems changes
  pub before : All (λ change. change.old ≡ rect_under kept.bounds change.item) changes
  pub room : All (λ change. change.item < length kept.bounds) changes
  pub inside : All (λ change. IsEmptyOrInside (region_after kept.grid fresh) change.new) changes
  pub reserved : fresh ≡ None → IsReserved kept.grid changes
  pub made : (other : GridState) → fresh ≡ Some other → IsGridWith other.region changes other
  pub alone : (other : GridState) → fresh ≡ Some other → (number : ℕ) → AreOfOthers number changes → rect_under kept.bounds number ≡ no_rect
