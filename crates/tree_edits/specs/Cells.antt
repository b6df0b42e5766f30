-- The grid of an engine says where the items of its page stand in the viewport.
use Rattle.std.specs.Prelude.{◌≡◌, ℕ, List, slice_index_or}
use Rattle.fractions.specs.declared.rect.Rect.{Rect}
use Rattle.affine.specs.Hull.{no_rect}
use Rattle.box_tree.specs.declared.item.Item.{Item}
use Rattle.box_tree.specs.declared.viewport.Viewport.{Viewport}
use Rattle.box_tree.specs.Contents.{Contents}
use Rattle.box_tree.specs.Numbers.{ItemsState, Names, IsNumber}
use Rattle.spatial_index.specs.Cells.{Region, IsEmptyOrInside}
use Rattle.spatial_index.specs.Contents.{GridState, StandsBy, StandsNowhere}
use Rattle.tree_edits.specs.Bounds.{view_bounds}

-- the whole points of the viewport, on its right and lower edges too
abbrev pub region_of : Viewport → Region
region_of viewport = record { width = viewport.w; height = viewport.h }

-- each item stands by its bounds under its number, over the region of the viewport, and nothing else stands in a cell
pub record IsGridOf (grid : GridState) (page : Contents) (items : ItemsState) : Type 0 where
  pub region : grid.region ≡ region_of page.viewport
  pub stands : (number : ℕ) (item : Item) → Names items number item → StandsBy grid number (view_bounds page item)
  pub no_other : (number : ℕ) → (IsNumber items number → ⊥) → StandsNowhere grid number

-- the bounds that a list has under a number, and four zeros beyond its end
abbrev pub rect_under : List Rect → ℕ → Rect
rect_under bounds number = slice_index_or bounds number no_rect

-- a list has the bounds of each item under its number, and four zeros under each number that no item has
pub record AreBoundsOf (bounds : List Rect) (page : Contents) (items : ItemsState) : Type 0 where
  pub named : (number : ℕ) (item : Item) → Names items number item → rect_under bounds number ≡ view_bounds page item
  pub no_other : (number : ℕ) → (IsNumber items number → ⊥) → rect_under bounds number ≡ no_rect

-- every number stands by the bounds that a list has under it, and these lie in the region
pub record IsGridBy (grid : GridState) (bounds : List Rect) : Type 0 where
  pub stands : (number : ℕ) → StandsBy grid number (rect_under bounds number)
  pub inside : (number : ℕ) → IsEmptyOrInside grid.region (rect_under bounds number)
