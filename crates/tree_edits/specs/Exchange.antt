-- New lists, and what a forest is to have so that they can take the place of those that an edit can change.
use Rattle.std.specs.Prelude.{◌≡◌, ◌⊎◌, ℕ, ◌<◌, ◌≤◌, ◌==◌, ◌&&◌, Bool, List, [], Some, None, map, IsTrue, IsFalse, IsSome, if◌then◌else◌}
use Rattle.std.specs.List.{AllByRecursion}
use Rattle.box_tree.specs.Containing.{makes_context}
use Rattle.box_tree.specs.Contents.{Contents}
use Rattle.box_tree.specs.Numbers.{ItemsState, IsNumber}
use Rattle.box_tree.specs.Planned.{is_among, times_in}
use Rattle.paint_order.specs.declared.entry.Entry.{Entry}
use Rattle.paint_order.specs.Lists.{list_under}
use Rattle.paint_order.specs.State.{State, list_room}
use Rattle.stacking.specs.Lists.{kept_list}

-- a list and the stacking context that it is for
pub record ContextList : Type 0 where
  pub context : ℕ
  pub entries : List Entry

-- it is the list of a real stacking context of the page, with the numbers of the items
pub record IsListOf (page : Contents) (items : ItemsState) (list : ContextList) : Type 0 where
  pub real : IsTrue (makes_context page list.context)
  pub listed : list.entries ≡ kept_list items page list.context

-- the stacking contexts that lists are for
abbrev pub contexts_of : List ContextList → List ℕ
contexts_of lists = map (λ list. list.context) lists

-- the forest has room for all numbers of the items and for all ids of the page
pub record HasRoomFor (forest : State) (page : Contents) (items : ItemsState) : Type 0 where
  pub for_items : (number : ℕ) → IsNumber items number → number < forest.item_room
  pub for_lists : page.next ≤ list_room forest

-- the new lists are those of the page, and with them in the place of those of the touched contexts the forest has each list of
-- the page: one that is touched and still stands is new, one that is neither touched nor new stands there, and what is no
-- context and not touched has none but the empty list of a page without a tree
pub record MayExchange (forest : State) (page : Contents) (items : ItemsState) (touched : List ℕ) (fresh : List ContextList) (was_bare : Bool) : Type 0 where
  pub room : HasRoomFor forest page items
  pub lists : AllByRecursion (IsListOf page items) fresh
  pub once : (id : ℕ) → times_in id touched ≤ 1
  pub positive : (id : ℕ) → IsTrue (is_among touched id) → 0 < id
  pub stands : (id : ℕ) → IsTrue (is_among touched id) → IsSome (list_under forest.lists id)
  pub renewed : (id : ℕ) → IsTrue (is_among touched id) → IsTrue (makes_context page id) → IsTrue (is_among (contexts_of fresh) id)
  pub others : (id : ℕ) → IsFalse (is_among touched id) → IsTrue (makes_context page id) →
      (list_under forest.lists id ≡ Some (kept_list items page id)) ⊎ ((list_under forest.lists id ≡ None) × IsTrue (is_among (contexts_of fresh) id))
  pub none : (id : ℕ) → IsFalse (is_among touched id) → IsFalse (makes_context page id) →
      list_under forest.lists id ≡ (if was_bare && (id == 0) then Some [] else None)
