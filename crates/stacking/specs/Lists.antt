-- The list of a stacking context as it is kept: each item by its number.
use Rattle.std.specs.Prelude.{◌≡◌, ◌⊎◌, ℕ, List, [], map, Some, None, IsTrue, slice_get, slice_index_or, if◌then◌else◌}
use Rattle.box_tree.specs.declared.item.Item.{Item}
use Rattle.box_tree.specs.Contents.{Contents}
use Rattle.box_tree.specs.Containing.{makes_context}
use Rattle.box_tree.specs.Numbers.{ItemsState, numbers_of, place_of}
use Rattle.paint_order.specs.declared.entry.Entry.{Entry}
use Rattle.paint_order.specs.declared.entry.Entry.TheVariants as entry
use Rattle.paint_order.specs.Lists.{Lists, list_under, entries_of}
use Rattle.stacking.specs.Painting.{ContextEntry, OneItem, SubContext, entries}
use Rattle.stacking.specs.OnPage.{of_node}

-- the number of an item of the page: that of its place among the items of its node
abbrev pub number_of : ItemsState → Item → ℕ
number_of s item = slice_index_or (numbers_of s item.node) (place_of item.part) 0

-- an item by its number, and another stacking context by its id
abbrev pub numbered : ItemsState → ContextEntry → Entry
numbered s (OneItem item) = entry.Item (number_of s item)
numbered s (SubContext id) = entry.Sub id

-- the list of a stacking context with these numbers of items
abbrev pub kept_list : ItemsState → Contents → ℕ → List Entry
kept_list items page context = map (numbered items) (of_node entries page context)

-- the table has the list of each real stacking context of the page under the id of the context, and no other list
abbrev pub AreListsOf : Lists → Contents → ItemsState → Type 0
AreListsOf lists page items =
    (id : ℕ) → list_under lists id ≡ (if makes_context page id then Some (kept_list items page id) else None)

-- the table has lists of the page alone: under each number stand no entries, or those of the list of the real stacking
-- context of this id
abbrev pub HasOnlyListsOf : Lists → Contents → ItemsState → Type 0
HasOnlyListsOf lists page items =
    (id : ℕ) → (entries_of lists id ≡ []) ⊎ (IsTrue (makes_context page id) × (entries_of lists id ≡ kept_list items page id))

-- the entry stands in the list of a real stacking context of the page, as its entry number k
pub record IsListedAt (page : Contents) (entry : ContextEntry) (context k : ℕ) : Type 0 where
  pub is_context : IsTrue (makes_context page context)
  pub stands : slice_get (of_node entries page context) k ≡ Some entry
