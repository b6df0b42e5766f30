-- What an engine keeps when its page has taken an edit and nothing else has.
use Rattle.std.specs.Prelude.{◌≡◌, ℕ, ◌<◌, ◌≤◌, length, IsTrue, IsFalse}
use Rattle.std.specs.List.{AllByRecursion}
use Rattle.box_tree.specs.declared.edit.Edit.{Edit}
use Rattle.box_tree.specs.Containing.{makes_context}
use Rattle.box_tree.specs.Contents.{Contents, has_id, IsValid}
use Rattle.box_tree.specs.Edited.{edited}
use Rattle.box_tree.specs.Forest.{roots_of}
use Rattle.box_tree.specs.Frame.{IsFaultless}
use Rattle.box_tree.specs.Numbers.{ItemsState, IsNumber, IsNumberedPage, KeepsNumbers, GivesFreshNumbers}
use Rattle.box_tree.specs.Planned.{is_among, times_in}
use Rattle.paint_order.specs.Lists.{list_under}
use Rattle.spaces.specs.Table.{entry_under, new_entry, renewed_entry, applied, is_bounded_in, FitsIn, renewed_node, removed_ids}
use Rattle.stacking.specs.Frame.{is_next_to, KeepsList}
use Rattle.tree_edits.specs.declared.kept.Kept.{Kept}
use Rattle.tree_edits.specs.declared.kept.Ready.{Ready}
use Rattle.tree_edits.specs.declared.reach.Reach.{Reach}
use Rattle.tree_edits.specs.Cells.{region_of, rect_under}
use Rattle.tree_edits.specs.Changes.{behind, changes_of, gives_sides, numbers_before, placed_by}
use Rattle.tree_edits.specs.Exchange.{IsListOf, HasRoomFor, contexts_of}
use Rattle.tree_edits.specs.Faithful.{is_bare, IsForestOf, IsFaithful}
use Rattle.tree_edits.specs.ItemGrid.{IsReadyFor, StandAsBefore, region_after}

-- an edit that the page has taken, what it reached in the page before, and the numbers of the items before and after
pub record IsCommitted (page after : Contents) (edit : Edit) (items items' : ItemsState) (reach : Reach) : Type 0 where
  pub faultless : IsFaultless page edit
  pub after_is : after ≡ edited page edit
  pub valid : IsValid after
  pub was : IsNumberedPage page items
  pub now : IsNumberedPage after items'
  pub keeps : KeepsNumbers items items' after
  pub gives : GivesFreshNumbers items items'
  pub subtree_is : reach.subtree ≡ renewed_node page edit
  pub removed_are : reach.removed.items ≡ removed_ids page edit
  pub real : (id : ℕ) → IsTrue (is_among reach.touched.items id) → IsTrue (makes_context page id)
  pub once : (id : ℕ) → times_in id reach.touched.items ≤ 1
  pub all : (id : ℕ) → IsTrue (makes_context page id) → IsFalse (is_among reach.touched.items id) → KeepsList page (edited page edit) id
  pub numbers_are : reach.numbers.items ≡ numbers_before page items edit
  pub bare_is : reach.was_bare ≡ is_bare (roots_of page.tree)
  pub resizes_is : reach.resizes ≡ gives_sides edit

-- what is kept is that of the page before such an edit
pub record IsOfPageBefore (kept : Kept) (after : Contents) (items' : ItemsState) (reach : Reach) : Type 0 where
  pub page : Contents
  pub edit : Edit
  pub items : ItemsState
  pub committed : IsCommitted page after edit items items' reach
  pub faithful : IsFaithful page items kept

-- the entries, the lists and the items stay as they are
pub record KeepsAll (old new : Kept) : Type 0 where
  pub entries : (id : ℕ) → entry_under new.spaces id ≡ entry_under old.spaces id
  pub lists : (id : ℕ) → list_under new.forest.lists id ≡ list_under old.forest.lists id
  pub root : new.forest.root ≡ old.forest.root
  pub items : StandAsBefore old.item_grid new.item_grid

-- the new entries are those of the edited subtree, and there is room for them; there is a new list for each context that is touched
-- and still stands and for each next to the subtree, and room for the lists; and the changes are those of the items of the subtree
-- and of those that are gone, for which there is room, or another grid
pub record IsMadeReady (after : Contents) (items : ItemsState) (reach : Reach) (old new : Kept) (ready : Ready) : Type 0 where
  pub renewed : (id : ℕ) → new_entry ready.spaces id ≡ renewed_entry after reach.subtree id
  pub fits : FitsIn (length new.spaces) ready.spaces
  pub bounded : IsTrue (is_bounded_in after reach.subtree)
  pub room : HasRoomFor new.forest after items
  pub lists : AllByRecursion (IsListOf after items) ready.lists.items
  pub touched : (id : ℕ) → IsTrue (is_among reach.touched.items id) → IsTrue (makes_context after id) → IsTrue (is_among (contexts_of ready.lists.items) id)
  pub next : (id : ℕ) → IsTrue (has_id after reach.subtree) → IsTrue (makes_context after id) → IsTrue (is_next_to after reach.subtree id) → IsTrue (is_among (contexts_of ready.lists.items) id)
  pub changes : ready.changes.items ≡ changes_of old.item_grid.bounds after items reach.subtree (behind items reach.subtree reach.numbers.items)
  pub long : (number : ℕ) → IsNumber items number → number < length new.item_grid.bounds
  pub grid : IsReadyFor ready.changes.items (region_of after.viewport) reach.resizes new.item_grid.grid ready.grid

-- all of that stands in its place
pub record IsPutIn (after : Contents) (items : ItemsState) (reach : Reach) (old new : Kept) (ready : Ready) : Type 0 where
  pub entries : (id : ℕ) → entry_under new.spaces id ≡ applied old.spaces ready.spaces reach.removed.items id
  pub lists : IsForestOf new.forest after items
  pub region : new.item_grid.grid.region ≡ region_after old.item_grid.grid ready.grid
  pub bounds : (number : ℕ) → rect_under new.item_grid.bounds number ≡ placed_by ready.changes.items number (rect_under old.item_grid.bounds number)
  pub room : length new.item_grid.bounds ≡ length old.item_grid.bounds
