-- The grid of the items of a page before an edit, with the changes that are ready, has all that the exchange asks, and is that of
-- the page after it then.
use Rattle.std.proofs.Common.{◌≡◌, ℕ, ◌<◌, List, [], length, Option, Some, None, is_some, Bool, true, false, refl, sym, ap, subst, ◌∙◌, inl, arith}
use Rattle.std.specs.Prelude.{All, ℤ}
use Rattle.std.specs.Option.{option_map_or}
use Rattle.std.proofs.lemmas.Bool.{false≢true}
use Rattle.std.proofs.lemmas.Int.{ints}
use Rattle.fractions.specs.declared.rect.Rect.{Rect}
use Rattle.box_tree.specs.declared.item.Item.{Item}
use Rattle.box_tree.specs.declared.edit.Edit.{Edit}
use Rattle.box_tree.specs.declared.edit.Edit.TheVariants.{Add, Remove, Move, Place, Restyle, Reshape, Scroll, Resize, ScrollView}
use Rattle.box_tree.specs.Contents.{Contents, IsValid, empty_page}
use Rattle.box_tree.specs.Edited.{edited}
use Rattle.box_tree.specs.Numbers.{ItemsState, Names, IsNumber, IsNumberedPage, KeepsNumbers, HasSameItems}
use Rattle.spaces.specs.Table.{renewed_node}
use Rattle.tree_edits.specs.declared.reach.Reach.{Reach}
use Rattle.spatial_index.specs.Cells.{Region, IsEmptyOrInside, is_met}
use Rattle.spatial_index.specs.declared.change.Change.{Change}
use Rattle.spatial_index.specs.Contents.{GridState, StandsNowhere, AreOfDistinctItems, AreOfOthers}
use Rattle.tree_edits.specs.Cells.{region_of, rect_under, AreBoundsOf, IsGridBy}
use Rattle.tree_edits.specs.Changes.{AreGone, behind, changes_of, gives_sides, gone_numbers, placed_by}
use Rattle.tree_edits.specs.Committed.{IsCommitted}
use Rattle.tree_edits.specs.ItemGrid.{ItemGridState, IsItemGridOf, StandAsBefore, IsGridWith, IsReadyFor, MayExchangeItems, region_after}
use Rattle.tree_edits.proofs.ChangesLemmas.{distinct-changes, before-changes, inside-changes, room-changes, bounds-after, whole-others}
use Rattle.tree_edits.proofs.GoneLemmas.{are_gone}

-- ---- a grid by bounds

-- a grid without an item
pub grid-empty : (grid : GridState) → ((item : ℕ) → StandsNowhere grid item) → IsGridBy grid []
unfolding is_met
grid-empty grid nowhere = record {
  stands = λ number. nowhere number;
  inside = λ number. inl (inl (omega (arith, ints)));
}

-- ---- the items of a page

-- no item has a number in an empty page
pub empty-kept : (kept : ItemGridState) (w h : ℤ) (items : ItemsState) → kept.grid.region ≡ record { width = w; height = h } → kept.bounds ≡ [] → IsNumberedPage (empty_page w h) items → IsItemGridOf kept (empty_page w h) items
empty-kept kept w h items region bounds numbered = record {
  region = region;
  bounds = subst (λ (rects : List Rect). AreBoundsOf rects (empty_page w h) items) (sym bounds) (record {
    named = λ number item named. absurd (never number item named);
    no_other = λ number none. refl;
  });
  room = λ number is. absurd (never number is.0 is.1);
}
  where
    never : (number : ℕ) (item : Item) → Names items number item → ⊥
    never number item named = let (k, within, at) = numbered.only number item named in omega (arith, within)

-- items that stand as before are those of a page that stays, whose items have the same numbers
pub items-kept : (old new : ItemGridState) (page : Contents) (items items' : ItemsState) → IsItemGridOf old page items → StandAsBefore old new → HasSameItems items items' → IsItemGridOf new page items'
items-kept old new page items items' kept same same_items = record {
  region = same.region ∙ kept.region;
  bounds = record {
    named = λ number item named. same.bounds number ∙ kept.bounds.named number item ((same_items.names number item).0 named);
    no_other = λ number none. same.bounds number ∙ kept.bounds.no_other number (λ is. none (is.0, (same_items.names number is.0).1 is.1));
  };
  room = λ number is. omega (arith, kept.room number (is.0, (same_items.names number is.0).0 is.1), same.no_shorter);
}

pub stand-still : (kept : ItemGridState) → StandAsBefore kept kept
stand-still kept = record { region = refl; bounds = λ number. refl; no_shorter = omega arith }

-- a new grid with the items of the changes is all that is wanted where the viewport gets other sides
pub ready-made : (changes : List Change) (region : Region) (resizes : Bool) (grid other : GridState) → resizes ≡ true → IsGridWith region changes other → IsReadyFor changes region resizes grid (Some other)
ready-made changes region resizes grid other gives with = record {
  reserved = λ none. absurd (false≢true (sym (ap is_some none)));
  made = λ made is. (gives, subst (IsGridWith region changes) (ap (λ (o : Option GridState). option_map_or (λ g. g) o other) is) with);
}

-- ---- an edit

-- only an edit that gives the viewport other sides does so
sides-kept : (page : Contents) (edit : Edit) → gives_sides edit ≡ false → region_of (edited page edit).viewport ≡ region_of page.viewport
sides-kept page (Add parent at kind boxes style) none = refl
sides-kept page (Remove id) none = refl
sides-kept page (Move id parent at) none = refl
sides-kept page (Place id anchor boxes max) none = refl
sides-kept page (Restyle id style) none = refl
sides-kept page (Reshape id form) none = refl
sides-kept page (Scroll id x y) none = refl
sides-kept page (Resize w h max) none = absurd (false≢true (sym none))
sides-kept page (ScrollView x y) none = refl

-- and it renews the whole page
sides-whole : (page : Contents) (edit : Edit) → gives_sides edit ≡ true → renewed_node page edit ≡ 0
sides-whole page (Add parent at kind boxes style) gives = absurd (false≢true gives)
sides-whole page (Remove id) gives = absurd (false≢true gives)
sides-whole page (Move id parent at) gives = absurd (false≢true gives)
sides-whole page (Place id anchor boxes max) gives = absurd (false≢true gives)
sides-whole page (Restyle id style) gives = absurd (false≢true gives)
sides-whole page (Reshape id form) gives = absurd (false≢true gives)
sides-whole page (Scroll id x y) gives = absurd (false≢true gives)
sides-whole page (Resize w h max) gives = refl
sides-whole page (ScrollView x y) gives = absurd (false≢true gives)

module _ (page after : Contents) (edit : Edit) (items items' : ItemsState) (reach : Reach) (done : IsCommitted page after edit items items' reach) (old : ItemGridState) (kept : IsItemGridOf old page items) where
  valid' : IsValid (edited page edit)
  valid' = subst IsValid done.after_is done.valid

  now' : IsNumberedPage (edited page edit) items'
  now' = subst (λ (p : Contents). IsNumberedPage p items') done.after_is done.now

  keeps' : KeepsNumbers items items' (edited page edit)
  keeps' = subst (λ (p : Contents). KeepsNumbers items items' p) done.after_is done.keeps

  abbrev gone : List ℕ
  gone = behind items' reach.subtree reach.numbers.items

  gone_is : gone ≡ gone_numbers page items items' edit
  gone_is = ap (λ (node : ℕ). behind items' node reach.numbers.items) done.subtree_is ∙ ap (behind items' (renewed_node page edit)) done.numbers_are

  is_gone : AreGone items items' gone
  is_gone = subst (AreGone items items') (sym gone_is) (are_gone page items items' done.was edit done.faultless valid' now' keeps' done.gives)

  abbrev changes : List Change
  changes = changes_of old.bounds after items' reach.subtree gone

  -- the changes are of distinct items
  pub changes-distinct : AreOfDistinctItems changes
  changes-distinct = distinct-changes after items' items old.bounds reach.subtree gone done.valid done.now is_gone

  -- where the sides stay, the grid is over the same region
  pub region-stays : reach.resizes ≡ false → old.grid.region ≡ region_of after.viewport
  region-stays same = kept.region ∙ sym (sides-kept page edit (sym done.resizes_is ∙ same)) ∙ ap (λ (p : Contents). region_of p.viewport) (sym done.after_is)

  module _ (new : ItemGridState) (same : StandAsBefore old new) (made : List Change) (fresh : Option GridState) (made_is : made ≡ changes) (long : (number : ℕ) → IsNumber items' number → number < length new.bounds)
      (ready : IsReadyFor made (region_of after.viewport) reach.resizes new.grid fresh) where
    region-then : region_after new.grid fresh ≡ region_of after.viewport
    region-then = by_grid fresh refl
      where
        by_grid : (o : Option GridState) → fresh ≡ o → region_after new.grid o ≡ region_of after.viewport
        by_grid None none = same.region ∙ region-stays (ready.reserved none).0
        by_grid (Some other) is = (ready.made other is).1.region_is

    pub may-exchange-items : MayExchangeItems new made fresh
    may-exchange-items = record {
      distinct = subst AreOfDistinctItems (sym made_is) changes-distinct;
      before = subst (All (λ (c : Change). c.old ≡ rect_under new.bounds c.item)) (sym made_is) (λ i d within. before-changes after items' items old.bounds reach.subtree gone i d within ∙ sym (same.bounds _));
      room = subst (All (λ (c : Change). c.item < length new.bounds)) (sym made_is)
          (room-changes after items' items old.bounds reach.subtree gone (length new.bounds) done.valid done.now is_gone long (λ number is. omega (arith, kept.room number is, same.no_shorter)));
      inside = subst (λ (r : Region). All (λ (c : Change). IsEmptyOrInside r c.new) made) (sym region-then)
          (subst (All (λ (c : Change). IsEmptyOrInside (region_of after.viewport) c.new)) (sym made_is) (inside-changes after items' items old.bounds reach.subtree gone));
      reserved = λ none. (ready.reserved none).1;
      made = λ other is. let with = (ready.made other is).1 in record { region_is = refl; stands = with.stands; no_other = with.no_other };
      alone = λ other is number others.
          let whole : reach.subtree ≡ 0 = done.subtree_is ∙ sides-whole page edit (sym done.resizes_is ∙ (ready.made other is).0) in
          same.bounds number
          ∙ whole-others after page items items' old.bounds gone done.now is_gone kept.bounds number
          (subst (λ (node : ℕ). AreOfOthers number (changes_of old.bounds after items' node gone)) whole (subst (AreOfOthers number) made_is others));
    }

    -- the grid after the exchange
    pub items-exchanged : (last : ItemGridState) → last.grid.region ≡ region_after new.grid fresh → ((number : ℕ) → rect_under last.bounds number ≡ placed_by made number (rect_under new.bounds number)) → length last.bounds ≡ length new.bounds → IsItemGridOf last after items'
    items-exchanged last region bounds room = record {
      region = region ∙ region-then;
      bounds = subst (λ (p : Contents). AreBoundsOf last.bounds p items') (sym done.after_is)
          (bounds-after page edit items items' gone old.bounds last.bounds done.faultless valid' done.was now' keeps' is_gone kept.bounds
          (λ number.
          bounds number ∙ ap (placed_by made number) (same.bounds number) ∙ ap (λ (cs : List Change). placed_by cs number (rect_under old.bounds number)) made_is
          ∙ ap (λ (p : Contents). placed_by (changes_of old.bounds p items' reach.subtree gone) number (rect_under old.bounds number)) done.after_is
          ∙ ap (λ (node : ℕ). placed_by (changes_of old.bounds (edited page edit) items' node gone) number (rect_under old.bounds number)) done.subtree_is));
      room = λ number is. omega (arith, long number is, room);
    }
