-- An edit that is committed leaves what is kept as it has to be for what is ready, and with that it is faithful to the page after.
use Rattle.std.proofs.Common.{◌≡◌, ℕ, List, Option, None, false, sym, ap, subst, ◌∙◌}
use Rattle.std.specs.Prelude.{All, if◌then◌else◌}
use Rattle.std.specs.Option.{option_or}
use Rattle.box_tree.specs.declared.edit.Edit.{Edit}
use Rattle.box_tree.specs.Contents.{Contents, IsValid}
use Rattle.box_tree.specs.Edited.{edited}
use Rattle.box_tree.specs.Numbers.{ItemsState}
use Rattle.box_tree.specs.Planned.{is_among}
use Rattle.spaces.specs.declared.table.entry.Entry.{Entry}
use Rattle.spaces.specs.Bound.{is_bounded}
use Rattle.spaces.specs.Table.{entry_under, is_bounded_in, new_entry, renewed_entry, renewed_node, removed_ids, applied, IsTableOf, IsTableOutside}
use Rattle.spaces.proofs.BoundFrameLemmas.{bounded-after}
use Rattle.spaces.proofs.TableFrameLemmas.{table-suits, table-applied, removed-apart}
use Rattle.spatial_index.specs.Contents.{AreOfDistinctItems}
use Rattle.tree_edits.specs.declared.kept.Kept.{Kept}
use Rattle.tree_edits.specs.declared.kept.Ready.{Ready}
use Rattle.tree_edits.specs.declared.reach.Reach.{Reach}
use Rattle.tree_edits.specs.Cells.{region_of}
use Rattle.tree_edits.specs.Changes.{behind, changes_of}
use Rattle.tree_edits.specs.Committed.{IsCommitted, IsMadeReady, IsPutIn, KeepsAll}
use Rattle.tree_edits.specs.Exchange.{MayExchange}
use Rattle.tree_edits.specs.Faithful.{IsFaithful}
use Rattle.tree_edits.specs.ItemGrid.{MayExchangeItems}
use Rattle.tree_edits.proofs.ItemGridLemmas.{changes-distinct, region-stays, may-exchange-items, items-exchanged}
use Rattle.tree_edits.proofs.RenewalLemmas.{may-exchange}

module _ (page after : Contents) (edit : Edit) (items items' : ItemsState) (reach : Reach) (done : IsCommitted page after edit items items' reach) (kept : Kept) (faithful : IsFaithful page items kept) where
  -- the entries outside of the edited subtree are those of the page
  pub table-outside : IsTableOutside kept.spaces after reach.subtree
  table-outside =
      subst (λ (p : Contents). IsTableOutside kept.spaces p reach.subtree) (sym done.after_is)
      (subst (IsTableOutside kept.spaces (edited page edit)) (sym done.subtree_is) (table-suits page edit done.faultless kept.spaces faithful.table))

  pub distinct : AreOfDistinctItems (changes_of kept.item_grid.bounds after items' reach.subtree (behind items' reach.subtree reach.numbers.items))
  distinct = changes-distinct page after edit items items' reach done kept.item_grid faithful.grid

  pub region : reach.resizes ≡ false → kept.item_grid.grid.region ≡ region_of after.viewport
  region = region-stays page after edit items items' reach done kept.item_grid faithful.grid

  -- the page stays within the bound just where the edited subtree is
  pub within : is_bounded_in after reach.subtree ≡ is_bounded (edited page edit)
  within =
      ap (is_bounded_in after) done.subtree_is ∙ ap (λ (p : Contents). is_bounded_in p (renewed_node page edit)) done.after_is
      ∙ bounded-after page edit done.faultless faithful.bounded (subst IsValid done.after_is done.valid)

  module _ (new : Kept) (ready : Ready) (same : KeepsAll kept new) (made : IsMadeReady after items' reach kept new ready) where
    renewed' : (id : ℕ) → new_entry ready.spaces id ≡ renewed_entry (edited page edit) (renewed_node page edit) id
    renewed' id = made.renewed id ∙ ap (λ (p : Contents). renewed_entry p reach.subtree id) done.after_is ∙ ap (λ (node : ℕ). renewed_entry (edited page edit) node id) done.subtree_is

    -- what is taken out has no new entry
    pub apart : All (λ id. new_entry ready.spaces id ≡ None) reach.removed.items
    apart = subst (All (λ id. new_entry ready.spaces id ≡ None)) (sym done.removed_are) (removed-apart page edit done.faultless ready.spaces renewed')

    pub lists-may : MayExchange new.forest after items' reach.touched.items ready.lists.items reach.was_bare
    lists-may = may-exchange page after edit reach.subtree items items' kept.forest new.forest reach.touched.items ready.lists.items reach.was_bare (record {
      faultless = done.faultless;
      after_is = done.after_is;
      node_is = done.subtree_is;
      numbered = done.was;
      valid = done.valid;
      keeps = done.keeps;
      kept = faithful.lists;
      same = same.lists;
      room = made.room;
      lists = made.lists;
      real = done.real;
      once = done.once;
      all = done.all;
      touched_new = made.touched;
      next_new = made.next;
      bare = done.bare_is;
    })

    pub items-may : MayExchangeItems new.item_grid ready.changes.items ready.grid
    items-may = may-exchange-items page after edit items items' reach done kept.item_grid faithful.grid new.item_grid same.items ready.changes.items ready.grid made.changes made.long made.grid

    pub faithful-last : (last : Kept) → IsPutIn after items' reach new last ready → IsFaithful after items' last
    faithful-last last put = record {
      bounded = ap is_bounded done.after_is ∙ sym within ∙ made.bounded;
      table = subst (IsTableOf last.spaces) (sym done.after_is) (table-applied page edit done.faultless kept.spaces faithful.table last.spaces ready.spaces renewed' entries);
      lists = put.lists;
      grid = items-exchanged page after edit items items' reach done kept.item_grid faithful.grid new.item_grid same.items ready.changes.items ready.grid made.changes made.long made.grid last.item_grid put.region put.bounds put.room;
    }
      where
        entries : (id : ℕ) → entry_under last.spaces id ≡ applied kept.spaces ready.spaces (removed_ids page edit) id
        entries id =
            put.entries id
            ∙ ap (λ (o : Option Entry). if is_among reach.removed.items id then None else option_or (new_entry ready.spaces id) o) (same.entries id)
            ∙ ap (λ (ids : List ℕ). applied kept.spaces ready.spaces ids id) done.removed_are
