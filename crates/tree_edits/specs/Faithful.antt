-- What an engine keeps beside its page says what the definitions say of the page.
use Rattle.std.specs.Prelude.{◌≡◌, ℕ, Bool, true, false, List, [], ◌∷◌, Option, Some, None, IsTrue, if◌then◌else◌, ◌&&◌, ◌==◌}
use Rattle.box_tree.specs.Containing.{makes_context}
use Rattle.box_tree.specs.Contents.{Contents}
use Rattle.box_tree.specs.Forest.{roots_of}
use Rattle.box_tree.specs.Numbers.{ItemsState}
use Rattle.paint_order.specs.declared.entry.Entry.{Entry as ListEntry}
use Rattle.paint_order.specs.Lists.{list_under}
use Rattle.paint_order.specs.State.{State}
use Rattle.stacking.specs.Lists.{kept_list}
use Rattle.spaces.specs.Bound.{is_bounded}
use Rattle.spaces.specs.Table.{IsTableOf}
use Rattle.tree_edits.specs.declared.kept.Kept.{Kept}
use Rattle.tree_edits.specs.ItemGrid.{IsItemGridOf}

-- the number of the root list: the id of the root, and 0 without one
abbrev pub root_number : List ℕ → ℕ
root_number [] = 0
root_number (root ∷ others) = root

abbrev pub is_bare : List ℕ → Bool
is_bare [] = true
is_bare (root ∷ others) = false

-- the list that stands under a number: that of the real stacking context of this id, with the numbers of the items, and for a
-- page without a tree an empty one under 0
abbrev pub list_of : Contents → ItemsState → ℕ → Option (List ListEntry)
list_of page items id =
    if makes_context page id then Some (kept_list items page id) else (if is_bare (roots_of page.tree) && (id == 0) then Some [] else None)

-- the lists are those of the page and no others, and the root list is that of its root
pub record IsForestOf (forest : State) (page : Contents) (items : ItemsState) : Type 0 where
  pub root : forest.root ≡ root_number (roots_of page.tree)
  pub lists : (number : ℕ) → list_under forest.lists number ≡ list_of page items number

-- the page is within the bound on maps, the table is that of the page, and so are the lists and the grid of its items
pub record IsFaithful (page : Contents) (items : ItemsState) (kept : Kept) : Type 0 where
  pub bounded : IsTrue (is_bounded page)
  pub table : IsTableOf kept.spaces page
  pub lists : IsForestOf kept.forest page items
  pub grid : IsItemGridOf kept.item_grid page items
