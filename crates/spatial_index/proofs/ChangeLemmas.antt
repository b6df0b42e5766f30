-- Changes one after another: what is done, what is still to do, and the room for it.
use Rattle.std.proofs.Common.{◌≡◌, ◌≢◌, ℕ, ◌+◌, ◌<◌, ◌≤◌, Bool, true, cond, eqb, List, [], length, get_or, take, drop, refl, sym, ap, ◌∙◌, arith, inl, inr}
use Rattle.std.specs.List.{All}
use Rattle.std.proofs.lemmas.Bool.Decides.{nat_tests}
use Rattle.std.proofs.lemmas.Bool.{cases_lt}
use Rattle.std.proofs.lemmas.List.{get_or_read, take_all}
use Rattle.std.proofs.lemmas.List.Sums.{sum_by_more, sum_by-drop_more}
use Rattle.fractions.specs.declared.rect.Rect.{Rect}
use Rattle.spatial_index.specs.declared.change.Change.{Change}
use Rattle.spatial_index.specs.Cells.{IsCell, is_met, is_empty}
use Rattle.spatial_index.specs.Contents.{GridState, cell_at, times, once_if, StandsBy, StandsNowhere, StandsAlike, arrivals, IsReserved, HasRoomForNoMore, AreOfDistinctItems, AreOfOthers}
use Rattle.spatial_index.specs.Moves.{PutsIn, TakesOut, KeepsItems, HasNoRoomFor, HasMoreRoom, HasRoomFor, Moves, moved_if}
use Rattle.spatial_index.proofs.PlanLemmas.{is_met-empty}

abbrev arrives : (level column row : ℕ) → Change → ℕ
arrives level column row change = once_if (is_met change.new level column row)

pub arrivals-nil : (level column row : ℕ) → arrivals [] level column row ≡ 0
unfolding arrivals
arrivals-nil level column row = refl

pub arrivals-take_more : (changes : List Change) (i : ℕ) (change : Change) (level column row : ℕ) → i < length changes → change ≡ get_or changes i change → arrivals (take (i + 1) changes) level column row ≡ arrivals (take i changes) level column row + once_if (is_met change.new level column row)
unfolding arrivals
arrivals-take_more changes i change level column row h read =
    sum_by_more (arrives level column row) changes i change h ∙ ap (λ (c : Change). arrivals (take i changes) level column row + arrives level column row c) (sym read)

pub arrivals-drop_more : (changes : List Change) (i : ℕ) (change : Change) (level column row : ℕ) → i < length changes → change ≡ get_or changes i change → arrivals (drop i changes) level column row ≡ once_if (is_met change.new level column row) + arrivals (drop (i + 1) changes) level column row
unfolding arrivals
arrivals-drop_more changes i change level column row h read =
    sum_by-drop_more (arrives level column row) changes i change h ∙ ap (λ (c : Change). arrives level column row c + arrivals (drop (i + 1) changes) level column row) (sym read)

-- what is alike stands by the same bounds
pub StandsBy-kept : (old new : GridState) (item : ℕ) (bounds : Rect) → new.region ≡ old.region → StandsAlike old new item → StandsBy old item bounds → StandsBy new item bounds
StandsBy-kept old new item bounds region alike there level column row cell =
    let cell' : IsCell old.region level column row = rw region at cell in
    alike level column row cell' ∙ there level column row cell'

pub StandsNowhere-kept : (old new : GridState) (item : ℕ) → new.region ≡ old.region → StandsAlike old new item → StandsNowhere old item → StandsNowhere new item
StandsNowhere-kept old new item region alike there level column row cell =
    let cell' : IsCell old.region level column row = rw region at cell in
    alike level column row cell' ∙ there level column row cell'

pub StandsBy-nowhere : (grid : GridState) (item : ℕ) (bounds : Rect) → is_empty bounds ≡ true → StandsNowhere grid item → StandsBy grid item bounds
StandsBy-nowhere grid item bounds empty nowhere level column row cell =
    rw (is_met-empty bounds level column row empty) (nowhere level column row cell)

pub HasRoomFor-after : (old middle : GridState) (item : ℕ) (gone bounds : Rect) → TakesOut old middle item gone → HasRoomFor old bounds → HasRoomFor middle bounds
HasRoomFor-after old middle item gone bounds taken room level column row cell =
    let cell' : IsCell old.region level column row = rw taken.region at cell in
    omega (arith, taken.spare level column row cell', room level column row cell')

moved_here : (item before middle after : ℕ) (gone come : Bool) → before ≡ once_if gone → middle + moved_if gone item item ≡ before → after ≡ middle + moved_if come item item → after ≡ once_if come
moved_here item before middle after gone come e f g = grind (arith, nat_tests)

moved_elsewhere : (item other before middle after : ℕ) (gone come : Bool) → item ≢ other → middle + moved_if gone item other ≡ before → after ≡ middle + moved_if come item other → after ≡ before
moved_elsewhere item other before middle after gone come different f g = grind (arith, nat_tests)

moved_at : (new : GridState) (changes : List Change) (i k : ℕ) (change d : Change) → k ≡ i → i < length changes → change ≡ get_or changes i change → StandsBy new change.item change.new → StandsBy new (get_or changes k d).item (get_or changes k d).new
moved_at new changes i k change d same h read moved = rw (same, ← get_or_read changes i change h read d) moved

pub Moves-both : (old middle new : GridState) (change : Change) → StandsBy old change.item change.old → TakesOut old middle change.item change.old → PutsIn middle new change.item change.new → Moves old new change
Moves-both old middle new change there taken put =
    record {
      region = put.region ∙ taken.region;
      moved =
          λ level column row cell.
          let in_middle : IsCell middle.region level column row = rw put.region at cell in
          let in_old : IsCell old.region level column row = rw taken.region at in_middle in
          moved_here change.item _ _ _ (is_met change.old level column row) (is_met change.new level column row) (there level column row in_old) (taken.items level column row in_old change.item) (put.items level column row in_middle change.item);
      others =
          λ item different level column row cell.
          let in_middle : IsCell middle.region level column row = rw (sym taken.region) at cell in
          moved_elsewhere change.item item _ _ _ (is_met change.old level column row) (is_met change.new level column row) different (taken.items level column row cell item) (put.items level column row in_middle item);
      spare =
          λ level column row cell.
          let in_middle : IsCell middle.region level column row = rw (sym taken.region) at cell in
          omega (arith, put.spare level column row in_middle, taken.spare level column row cell);
    }

-- the changes before the i-th are carried out, and there is room for the others
pub record AreApplied (start now : GridState) (changes : List Change) (i : ℕ) : Type 0 where
  pub region : now.region ≡ start.region
  pub done : (k : ℕ) (d : Change) → k < i → StandsBy now (get_or changes k d).item (get_or changes k d).new
  pub to_do : (k : ℕ) (d : Change) → i ≤ k → k < length changes → StandsBy now (get_or changes k d).item (get_or changes k d).old
  pub others : (item : ℕ) → AreOfOthers item changes → StandsAlike start now item
  pub room : IsReserved now (drop i changes)

pub AreApplied-none : (start : GridState) (changes : List Change) → IsReserved start changes → All (λ change. StandsBy start change.item change.old) changes → AreApplied start start changes 0
AreApplied-none start changes reserved there =
    record {
      region = refl;
      done = λ k d h. absurd (omega arith);
      to_do = λ k d low h. there k d h;
      others = λ item others level column row cell. refl;
      room = reserved;
    }

-- room for the changes that are left is room for the next one
pub HasRoomFor-next : (now : GridState) (changes : List Change) (i : ℕ) (change : Change) → i < length changes → change ≡ get_or changes i change → IsReserved now (drop i changes) → HasRoomFor now change.new
HasRoomFor-next now changes i change h read room level column row cell =
    omega (arith, room level column row cell, arrivals-drop_more changes i change level column row h read)

pub IsReserved-rest : (now new : GridState) (changes : List Change) (i : ℕ) (change : Change) → i < length changes → change ≡ get_or changes i change → Moves now new change → IsReserved now (drop i changes) → IsReserved new (drop (i + 1) changes)
IsReserved-rest now new changes i change h read moves room level column row cell =
    let cell' : IsCell now.region level column row = rw moves.region at cell in
    omega (arith, room level column row cell', arrivals-drop_more changes i change level column row h read, moves.spare level column row cell')

pub AreApplied-more : (start now new : GridState) (changes : List Change) (i : ℕ) (change : Change) → i < length changes → change ≡ get_or changes i change → AreOfDistinctItems changes → Moves now new change → AreApplied start now changes i → AreApplied start new changes (i + 1)
AreApplied-more start now new changes i change h read distinct moves so_far =
    record {
      region = moves.region ∙ so_far.region;
      done =
          λ k d below.
          elim (cases_lt k i) [
            | inl earlier ↦ StandsBy-kept now new _ _ moves.region (moves.others _ (λ same. distinct k i d earlier h (sym same ∙ ap (λ (c : Change). c.item) (get_or_read changes i change h read d)))) (so_far.done k d earlier)
            | inr later ↦ moved_at new changes i k change d (omega arith) h read moves.moved
          ];
      to_do =
          λ k d above inside.
          StandsBy-kept now new _ _ moves.region (moves.others _ (λ same. distinct i k d (omega arith) inside (sym (ap (λ (c : Change). c.item) (get_or_read changes i change h read d)) ∙ same))) (so_far.to_do k d (omega arith) inside);
      others =
          λ item others level column row cell.
          let cell' : IsCell now.region level column row = rw (sym so_far.region) at cell in
          moves.others item (λ same. others i change h (sym (ap (λ (c : Change). c.item) read) ∙ same)) level column row cell' ∙ so_far.others item others level column row cell;
      room = IsReserved-rest now new changes i change h read moves so_far.room;
    }

-- the items before the i-th stand in a new grid, and no other one; and there is room for the others
pub record AreBuilt (start now : GridState) (items : List Change) (i : ℕ) : Type 0 where
  pub region : now.region ≡ start.region
  pub done : (k : ℕ) (d : Change) → k < i → StandsBy now (get_or items k d).item (get_or items k d).new
  pub absent : (item : ℕ) → ((k : ℕ) (d : Change) → k < i → (get_or items k d).item ≢ item) → StandsNowhere now item
  pub room : IsReserved now (drop i items)

pub AreBuilt-none : (start : GridState) (items : List Change) → IsReserved start items → ((item : ℕ) → StandsNowhere start item) → AreBuilt start start items 0
AreBuilt-none start items reserved nothing =
    record {
      region = refl;
      done = λ k d h. absurd (omega arith);
      absent = λ item others. nothing item;
      room = reserved;
    }

-- the next item stands nowhere yet
pub next_absent : (start now : GridState) (items : List Change) (i : ℕ) (change : Change) → i < length items → change ≡ get_or items i change → AreOfDistinctItems items → AreBuilt start now items i → StandsNowhere now change.item
next_absent start now items i change h read distinct so_far =
    so_far.absent change.item (λ k d below same. distinct k i d below h (same ∙ ap (λ (c : Change). c.item) (get_or_read items i change h read d)))

pub AreBuilt-more : (start now new : GridState) (items : List Change) (i : ℕ) (change : Change) (old : Rect) → i < length items → change ≡ get_or items i change → AreOfDistinctItems items → Moves now new (record { item = change.item; old = old; new = change.new }) → AreBuilt start now items i → AreBuilt start new items (i + 1)
AreBuilt-more start now new items i change old h read distinct moves so_far =
    record {
      region = moves.region ∙ so_far.region;
      done =
          λ k d below.
          elim (cases_lt k i) [
            | inl earlier ↦ StandsBy-kept now new _ _ moves.region (moves.others _ (λ same. distinct k i d earlier h (sym same ∙ ap (λ (c : Change). c.item) (get_or_read items i change h read d)))) (so_far.done k d earlier)
            | inr later ↦ moved_at new items i k change d (omega arith) h read moves.moved
          ];
      absent =
          λ item others.
          StandsNowhere-kept now new item moves.region
          (moves.others item (λ same. others i change (omega arith) (sym (ap (λ (c : Change). c.item) read) ∙ same)))
          (so_far.absent item (λ k d below. others k d (omega arith)));
      room =
          λ level column row cell.
          let cell' : IsCell now.region level column row = rw moves.region at cell in
          omega (arith, so_far.room level column row cell', arrivals-drop_more items i change level column row h read, moves.spare level column row cell');
    }

-- what was promised to the cells that the changes before the i-th put their items into is taken back
pub record AreForgotten (start now : GridState) (changes : List Change) (i : ℕ) : Type 0 where
  pub same : KeepsItems start now
  pub spare : (level column row : ℕ) → IsCell start.region level column row → (cell_at now level column row).spare ≡ cond (eqb (arrivals (take i changes) level column row) 0) (cell_at start level column row).spare 0

-- room for the changes before the i-th was made, beside that which there was, and the items stay
pub record AreReserved (start now : GridState) (changes : List Change) (i : ℕ) : Type 0 where
  pub same : KeepsItems start now
  pub spare : (level column row : ℕ) → IsCell start.region level column row → (cell_at now level column row).spare ≡ (cell_at start level column row).spare + arrivals (take i changes) level column row

pub KeepsItems-none : (grid : GridState) → KeepsItems grid grid
KeepsItems-none grid = record { region = refl; items = λ level column row cell. refl }

pub KeepsItems-then : (start now new : GridState) → KeepsItems start now → KeepsItems now new → KeepsItems start new
KeepsItems-then start now new first next =
    record {
      region = next.region ∙ first.region;
      items =
          λ level column row cell.
          let cell' : IsCell now.region level column row = rw (sym first.region) at cell in
          next.items level column row cell' ∙ first.items level column row cell;
    }

pub AreForgotten-none : (grid : GridState) (changes : List Change) → AreForgotten grid grid changes 0
AreForgotten-none grid changes =
    record { same = KeepsItems-none grid; spare = λ level column row cell. rw (arrivals-nil level column row) }

forgotten_more : (met : Bool) (spare before middle after count more : ℕ) → middle ≡ cond (eqb count 0) before 0 → after ≡ cond met 0 middle → more ≡ count + once_if met → after ≡ cond (eqb more 0) before 0
forgotten_more met spare before middle after count more e f g = grind (arith, nat_tests)

pub AreForgotten-more : (start now new : GridState) (changes : List Change) (i : ℕ) (change : Change) → i < length changes → change ≡ get_or changes i change → KeepsItems now new → HasNoRoomFor now new change.new → AreForgotten start now changes i → AreForgotten start new changes (i + 1)
AreForgotten-more start now new changes i change h read same none so_far =
    record {
      same = KeepsItems-then start now new so_far.same same;
      spare =
          λ level column row cell.
          let cell' : IsCell now.region level column row = rw (sym so_far.same.region) at cell in
          forgotten_more (is_met change.new level column row) 0 _ _ _ _ _ (so_far.spare level column row cell) (none.spare level column row cell') (arrivals-take_more changes i change level column row h read);
    }

pub AreReserved-none : (grid : GridState) (changes : List Change) → AreReserved grid grid changes 0
AreReserved-none grid changes =
    record {
      same = KeepsItems-none grid;
      spare = λ level column row cell. omega (arith, arrivals-nil level column row);
    }

pub AreReserved-more : (start now new : GridState) (changes : List Change) (i : ℕ) (change : Change) → i < length changes → change ≡ get_or changes i change → KeepsItems now new → HasMoreRoom now new change.new → AreReserved start now changes i → AreReserved start new changes (i + 1)
AreReserved-more start now new changes i change h read same more so_far =
    record {
      same = KeepsItems-then start now new so_far.same same;
      spare =
          λ level column row cell.
          let cell' : IsCell now.region level column row = rw (sym so_far.same.region) at cell in
          omega (arith, so_far.spare level column row cell, arrivals-take_more changes i change level column row h read, more.spare level column row cell');
    }

room_for_no_more : (before middle after count : ℕ) → middle ≡ cond (eqb count 0) before 0 → after ≡ middle + count → after ≡ cond (eqb count 0) before count
room_for_no_more before middle after count e f = grind (arith, nat_tests)

-- room for all changes, and for no more
pub HasRoomForNoMore-all : (start middle new : GridState) (changes : List Change) (i j : ℕ) → length changes ≤ i → length changes ≤ j → AreForgotten start middle changes i → AreReserved middle new changes j → HasRoomForNoMore start new changes
HasRoomForNoMore-all start middle new changes i j h h' forgotten reserved level column row cell =
    let cell' : IsCell middle.region level column row = rw (sym forgotten.same.region) at cell in
    let none = rw (take_all i changes h) at (forgotten.spare level column row cell) in
    let more = rw (take_all j changes h') at (reserved.spare level column row cell') in
    room_for_no_more _ _ _ (arrivals changes level column row) none more

IsReserved-cell : (before after count : ℕ) → after ≡ cond (eqb count 0) before count → count ≤ after
IsReserved-cell before after count e = grind (arith, nat_tests)

pub IsReserved-exactly : (old new : GridState) (changes : List Change) → new.region ≡ old.region → HasRoomForNoMore old new changes → IsReserved new changes
IsReserved-exactly old new changes region room level column row cell =
    let cell' : IsCell old.region level column row = rw region at cell in
    IsReserved-cell _ _ _ (room level column row cell')

pub StandsNowhere-same : (old new : GridState) (item : ℕ) → KeepsItems old new → StandsNowhere old item → StandsNowhere new item
StandsNowhere-same old new item same nowhere =
    StandsNowhere-kept old new item same.region (λ level column row cell. ap (times item) (same.items level column row cell)) nowhere

pub StandsBy-same : (old new : GridState) (item : ℕ) (bounds : Rect) → KeepsItems old new → StandsBy old item bounds → StandsBy new item bounds
StandsBy-same old new item bounds same there =
    StandsBy-kept old new item bounds same.region (λ level column row cell. ap (times item) (same.items level column row cell)) there

pub apart : (m n : ℕ) → m < n → m ≢ n
apart m n h same = omega arith
