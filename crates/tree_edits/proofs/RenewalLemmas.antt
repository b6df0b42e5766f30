-- A forest of the page before an edit, with the new lists, has all that the exchange asks.
use Rattle.std.proofs.Common.{◌≡◌, ◌≢◌, ◌⊎◌, ℕ, ◌<◌, ◌≤◌, ◌==◌, List, [], ◌∷◌, Option, Some, None, is_some, Bool, true, false, if◌then◌else◌, refl, sym, ap, ◌∙◌, subst, inl, inr, arith, zero, suc}
use Rattle.std.specs.Prelude.{◌&&◌, unwrap_or, ℤ}
use Rattle.std.specs.List.{AllByRecursion}
use Rattle.std.specs.Option.{option_or}
use Rattle.std.proofs.lemmas.Bool.{false≢true}
use Rattle.std.proofs.lemmas.Bool.Decides.{nat_tests}
use Rattle.box_tree.specs.declared.edit.Edit.{Edit}
use Rattle.box_tree.specs.declared.edit.EditFault.{EditFault}
use Rattle.box_tree.specs.declared.edit.EditFault.TheVariants as faults
use Rattle.box_tree.specs.Containing.{makes_context}
use Rattle.box_tree.specs.Contents.{Contents, has_id, IsValid, empty_page}
use Rattle.box_tree.specs.Edited.{edited, first_fault as first_table_fault}
use Rattle.box_tree.specs.Forest.{roots_of}
use Rattle.box_tree.specs.Frame.{edited_node, IsFaultless}
use Rattle.box_tree.specs.Numbers.{ItemsState, IsNumberedPage, KeepsNumbers, HasSameItems}
use Rattle.box_tree.specs.Planned.{is_among, times_in}
use Rattle.paint_order.specs.declared.entry.Entry.{Entry}
use Rattle.paint_order.specs.Lists.{list_under}
use Rattle.paint_order.specs.State.{State}
use Rattle.spaces.specs.declared.table.fault.BoundOrMemory.{BoundOrMemory}
use Rattle.spaces.specs.declared.table.fault.BoundOrMemory.TheVariants as unrenewed
use Rattle.spaces.specs.Bound.{is_bounded}
use Rattle.spaces.specs.declared.table.entry.Entry.{Entry as SpaceEntry}
use Rattle.spaces.specs.Table.{renewed_node, IsTableOf}
use Rattle.spaces.proofs.TableFrameLemmas.{table-empty}
use Rattle.stacking.specs.Frame.{is_next_to, KeepsList}
use Rattle.stacking.specs.Lists.{kept_list}
use Rattle.stacking.proofs.MadeLemmas.{made-there, made-next, view-contexts}
use Rattle.stacking.proofs.WholeLemmas.{lists-keep_numbers}
use Rattle.tree_edits.specs.Committed.{KeepsAll}
use Rattle.tree_edits.specs.Edits.{bound_fault, fault_of, first_fault}
use Rattle.tree_edits.specs.Exchange.{ContextList, IsListOf, HasRoomFor, MayExchange, contexts_of}
use Rattle.tree_edits.specs.declared.kept.Kept.{Kept}
use Rattle.tree_edits.specs.Faithful.{is_bare, list_of, IsForestOf, IsFaithful}
use Rattle.tree_edits.proofs.ExchangeLemmas.{given-context}
use Rattle.tree_edits.proofs.ItemGridLemmas.{empty-kept, items-kept, stand-still}
use Rattle.tree_edits.proofs.NumberLemmas.{same-list}
use Rattle.tree_edits.proofs.TableLemmas.{Slot}

abbrev blank : Slot
blank = Some []

-- what is known once all is ready
pub record IsReady (page after : Contents) (edit : Edit) (node : ℕ) (items items' : ItemsState) (old forest : State) (touched : List ℕ) (fresh : List ContextList) (was_bare : Bool) : Type 0 where
  pub faultless : IsFaultless page edit
  pub after_is : after ≡ edited page edit
  pub node_is : node ≡ renewed_node page edit
  pub numbered : IsNumberedPage page items
  pub valid : IsValid after
  pub keeps : KeepsNumbers items items' after
  pub kept : IsForestOf old page items
  pub same : (id : ℕ) → list_under forest.lists id ≡ list_under old.lists id
  pub room : HasRoomFor forest after items'
  pub lists : AllByRecursion (IsListOf after items') fresh
  pub real : (id : ℕ) → is_among touched id ≡ true → makes_context page id ≡ true
  pub once : (id : ℕ) → times_in id touched ≤ 1
  pub all : (id : ℕ) → makes_context page id ≡ true → is_among touched id ≡ false → KeepsList page (edited page edit) id
  pub touched_new : (id : ℕ) → is_among touched id ≡ true → makes_context after id ≡ true → is_among (contexts_of fresh) id ≡ true
  pub next_new : (id : ℕ) → has_id after node ≡ true → makes_context after id ≡ true → is_next_to after node id ≡ true → is_among (contexts_of fresh) id ≡ true
  pub bare : was_bare ≡ is_bare (roots_of page.tree)

-- only under 0 stands the empty list of a page without a tree
none-under : (bare : Bool) (id : ℕ) → 0 < id → (if bare && (id == 0) then blank else None) ≡ None
none-under true id positive = let not_zero : (id == 0) ≡ false = grind (arith, nat_tests) in ap (λ (b : Bool). if b then blank else None) not_zero
none-under false id positive = refl

-- the list of a stacking context, and of what is none
list_of-context : (page : Contents) (items : ItemsState) (id : ℕ) (b : Bool) → makes_context page id ≡ b →
    list_of page items id ≡ (if b then Some (kept_list items page id) else (if is_bare (roots_of page.tree) && (id == 0) then Some [] else None))
list_of-context page items id b is = ap (λ (c : Bool). if c then Some (kept_list items page id) else (if is_bare (roots_of page.tree) && (id == 0) then Some [] else None)) is

module _ (page after : Contents) (edit : Edit) (node : ℕ) (items items' : ItemsState) (old forest : State) (touched : List ℕ) (fresh : List ContextList) (was_bare : Bool)
    (ready : IsReady page after edit node items items' old forest touched fresh was_bare) where
  stood : (id : ℕ) (b : Bool) → makes_context page id ≡ b →
      list_under forest.lists id ≡ (if b then Some (kept_list items page id) else (if is_bare (roots_of page.tree) && (id == 0) then Some [] else None))
  stood id b is = ready.same id ∙ ready.kept.lists id ∙ list_of-context page items id b is

  stays : (id : ℕ) → is_among touched id ≡ false → makes_context page id ≡ true → KeepsList page after id
  stays id apart was = subst (λ (p : Contents). KeepsList page p id) (sym ready.after_is) (ready.all id was apart)

  -- what becomes a stacking context gets a new list
  made-new : (id : ℕ) → makes_context page id ≡ false → makes_context after id ≡ true → is_among (contexts_of fresh) id ≡ true
  made-new id plain real = by_node (edited_node page edit) refl
    where
      real' : makes_context (edited page edit) id ≡ true
      real' = sym (ap (λ (p : Contents). makes_context p id) ready.after_is) ∙ real

      by_node : (o : Option ℕ) → edited_node page edit ≡ o → is_among (contexts_of fresh) id ≡ true
      by_node None none = absurd (false≢true (sym plain ∙ sym (view-contexts page edit id none) ∙ real'))
      by_node (Some x) is =
          let same : node ≡ x = ready.node_is ∙ ap (λ (o : Option ℕ). unwrap_or o 0) is in
          ready.next_new id
          (ap (has_id after) same ∙ ap (λ (p : Contents). has_id p x) ready.after_is ∙ made-there page edit x id ready.faultless is plain real')
          real
          (ap (λ (k : ℕ). is_next_to after k id) same ∙ ap (λ (p : Contents). is_next_to p x id) ready.after_is ∙ made-next page edit x id ready.faultless is plain real')

  pub may-exchange : MayExchange forest after items' touched fresh was_bare
  may-exchange = record {
    room = ready.room;
    lists = ready.lists;
    once = ready.once;
    positive = λ id among. (given-context page id ready.faultless.valid (ready.real id among)).0;
    stands = λ id among. ap is_some (stood id true (ready.real id among));
    renewed = ready.touched_new;
    others = λ id apart real. by_before id apart real (makes_context page id) refl;
    none = λ id apart plain. by_none id apart plain (makes_context page id) refl;
  }
    where
      by_before : (id : ℕ) → is_among touched id ≡ false → makes_context after id ≡ true → (b : Bool) → makes_context page id ≡ b →
          (list_under forest.lists id ≡ Some (kept_list items' after id)) ⊎ ((list_under forest.lists id ≡ None) × (is_among (contexts_of fresh) id ≡ true))
      by_before id apart real true was =
          inl (stood id true was ∙ ap Some (sym (lists-keep_numbers page after items items' id ready.faultless.valid ready.valid ready.numbered ready.keeps was (stays id apart was))))
      by_before id apart real false was = inr (stood id false was ∙ none-under (is_bare (roots_of page.tree)) id (given-context after id ready.valid real).0, made-new id was real)

      by_none : (id : ℕ) → is_among touched id ≡ false → makes_context after id ≡ false → (b : Bool) → makes_context page id ≡ b →
          list_under forest.lists id ≡ (if was_bare && (id == 0) then Some [] else None)
      by_none id apart plain true was = absurd (false≢true (sym plain ∙ (stays id apart was).context))
      by_none id apart plain false was = stood id false was ∙ ap (λ (b : Bool). if b && (id == 0) then Some [] else None) (sym ready.bare)

-- lists that stay are those of a page that stays, whose items have the same numbers
pub forest-kept : (old new : State) (page : Contents) (items items' : ItemsState) → IsForestOf old page items → ((id : ℕ) → list_under new.lists id ≡ list_under old.lists id) → new.root ≡ old.root →
    HasSameItems items items' → IsForestOf new page items'
forest-kept old new page items items' kept same root same_items = record {
  root = root ∙ kept.root;
  lists = λ id. same id ∙ kept.lists id ∙ ap (λ (list : List Entry). if makes_context page id then Some list else (if is_bare (roots_of page.tree) && (id == 0) then Some [] else None)) (sym (same-list items items' page id same_items));
}

-- the fault of an edit whose spaces can't be renewed is the bound, unless it is want of memory
pub refused : (page : Contents) (edit : Edit) (why : BoundOrMemory) (fault : EditFault) → fault ≡ fault_of why → first_table_fault page edit ≡ None → (why ≡ unrenewed.Bound → is_bounded (edited page edit) ≡ false) →
    fault ≢ faults.OutOfMemory → first_fault page edit ≡ Some fault
refused page edit unrenewed.Bound fault is none beyond other = ap (λ (o : Option EditFault). option_or o (bound_fault (is_bounded (edited page edit)))) none ∙ ap bound_fault (beyond refl) ∙ ap Some (sym is)
refused page edit unrenewed.OutOfMemory fault is none beyond other = absurd (other is)

-- what is kept beside a page that was tested, or changed and changed back, is still faithful
pub faithful-kept : (page page' : Contents) (items items' : ItemsState) (kept kept' : Kept) → page' ≡ page → HasSameItems items items' → KeepsAll kept kept' → IsFaithful page items kept → IsFaithful page' items' kept'
faithful-kept page page' items items' kept kept' page_is same_items same faithful =
    subst (λ (p : Contents). IsFaithful p items' kept') (sym page_is) (record {
      bounded = faithful.bounded;
      table = λ id. same.entries id ∙ faithful.table id;
      lists = forest-kept kept.forest kept'.forest page items items' faithful.lists same.lists same.root same_items;
      grid = items-kept kept.item_grid kept'.item_grid page items items' faithful.grid same.items same_items;
    })

pub keeps-all : (kept : Kept) → KeepsAll kept kept
keeps-all kept = record { entries = λ id. refl; lists = λ id. refl; root = refl; items = stand-still kept.item_grid }

-- what is kept beside an empty page
pub faithful-empty : (w h : ℤ) (page : Contents) (items : ItemsState) (kept : Kept) → page ≡ empty_page w h → IsNumberedPage page items → kept.spaces ≡ [] → kept.forest ≡ record { lists = blank ∷ []; root = 0; item_room = 0 } →
    kept.item_grid.grid.region ≡ record { width = w; height = h } → kept.item_grid.bounds ≡ [] → IsFaithful page items kept
faithful-empty w h page items kept page_is numbered spaces forest region bounds =
    subst (λ (p : Contents). IsFaithful p items kept) (sym page_is) (record {
      bounded = refl;
      table = subst (λ (table : List (Option SpaceEntry)). IsTableOf table (empty_page w h)) (sym spaces) (table-empty w h);
      lists = subst (λ (state : State). IsForestOf state (empty_page w h) items) (sym forest) (record { root = refl; lists = λ id. by_id id });
      grid = empty-kept kept.item_grid w h items region bounds (subst (λ (p : Contents). IsNumberedPage p items) page_is numbered);
    })
  where
    by_id : (id : ℕ) → list_under (blank ∷ []) id ≡ list_of (empty_page w h) items id
    by_id zero = refl
    by_id (suc id) = sym (none-under true (suc id) (omega arith))
