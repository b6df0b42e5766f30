-- What an edit makes of the bounds of items.
use Rattle.std.specs.Prelude.{ℕ, ◌<◌, ◌≤◌, ◌++◌, ◌==◌, if◌then◌else◌, Bool, true, false, List, [], ◌∷◌, map, length, drop, slice_get}
use Rattle.std.specs.List.{flat_map}
use Rattle.std.specs.Option.{option_map_or}
use Rattle.fractions.specs.declared.rect.Rect.{Rect}
use Rattle.affine.specs.Hull.{no_rect}
use Rattle.box_tree.specs.declared.edit.Edit.{Edit}
use Rattle.box_tree.specs.declared.edit.Edit.TheVariants.{Add, Remove, Move, Place, Restyle, Reshape, Scroll, Resize, ScrollView}
use Rattle.box_tree.specs.Contents.{Contents, tree_of}
use Rattle.box_tree.specs.Forest.{ids_in}
use Rattle.box_tree.specs.Numbers.{ItemsState, numbers_of, IsNumber}
use Rattle.box_tree.specs.Planned.{times_in}
use Rattle.spatial_index.specs.declared.change.Change.{Change}
use Rattle.spaces.specs.Table.{subtree_of, renewed_node}
use Rattle.tree_edits.specs.Bounds.{view_bounds}
use Rattle.tree_edits.specs.Cells.{rect_under}

-- the numbers of the items of some nodes, node by node
abbrev pub numbers_in : ItemsState → List ℕ → List ℕ
numbers_in items ids = flat_map (numbers_of items) ids

-- the bounds of the item that a number was given to last
abbrev pub bounds_given : Contents → ItemsState → ℕ → Rect
bounds_given page items number = option_map_or (view_bounds page) (slice_get items.given number) no_rect

-- the change of an item of the page, from the bounds that a list has
abbrev pub moved : List Rect → Contents → ItemsState → ℕ → Change
moved bounds page items number = record { item = number; old = rect_under bounds number; new = bounds_given page items number }

-- the change of an item that is gone
abbrev pub taken : List Rect → ℕ → Change
taken bounds number = record { item = number; old = rect_under bounds number; new = no_rect }

-- the changes of the items of a subtree, or of the whole page for id 0, and those of some items that are gone
abbrev pub changes_of : List Rect → Contents → ItemsState → ℕ → List ℕ → List Change
changes_of bounds page items subtree gone = map (moved bounds page items) (numbers_in items (ids_in (subtree_of page subtree))) ++ map (taken bounds) gone

-- the bounds under a number after some changes, by those before
abbrev pub placed_by : List Change → ℕ → Rect → Rect
placed_by [] number before = before
placed_by (change ∷ changes) number before = placed_by changes number (if change.item == number then change.new else before)

-- these are the numbers of items that are numbers no more, each once
pub record AreGone (old new : ItemsState) (gone : List ℕ) : Type 0 where
  pub once : (number : ℕ) → times_in number gone ≤ 1
  pub were : (number : ℕ) → 0 < times_in number gone → IsNumber old number
  pub none_is : (number : ℕ) → 0 < times_in number gone → IsNumber new number → ⊥
  pub all : (number : ℕ) → IsNumber old number → (IsNumber new number → ⊥) → 0 < times_in number gone

-- the numbers of the items of the nodes that an edit can take items from: of all nodes that go, and of one that is placed
abbrev pub numbers_before : Contents → ItemsState → Edit → List ℕ
numbers_before page items (Add parent at kind boxes style) = []
numbers_before page items (Remove id) = numbers_in items (ids_in (tree_of page id))
numbers_before page items (Move id parent at) = []
numbers_before page items (Place id anchor boxes max) = numbers_of items id
numbers_before page items (Restyle id style) = []
numbers_before page items (Reshape id form) = []
numbers_before page items (Scroll id x y) = []
numbers_before page items (Resize w h max) = []
numbers_before page items (ScrollView x y) = []

-- those of some numbers that stand behind as many as a node has
abbrev pub behind : ItemsState → ℕ → List ℕ → List ℕ
behind items node numbers = drop (length (numbers_of items node)) numbers

-- those of the numbers before that no item has after the edit: the ones behind those that the edited node still has
abbrev pub gone_numbers : Contents → (old new : ItemsState) → Edit → List ℕ
gone_numbers page old new edit = behind new (renewed_node page edit) (numbers_before page old edit)

-- the edit gives the viewport other sides
abbrev pub gives_sides : Edit → Bool
gives_sides (Add parent at kind boxes style) = false
gives_sides (Remove id) = false
gives_sides (Move id parent at) = false
gives_sides (Place id anchor boxes max) = false
gives_sides (Restyle id style) = false
gives_sides (Reshape id form) = false
gives_sides (Scroll id x y) = false
gives_sides (Resize w h max) = true
gives_sides (ScrollView x y) = false
