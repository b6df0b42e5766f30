-- One cell more, of those whose numbers are given, is edited.
use Rattle.std.proofs.Common.{◌≡◌, ◌≢◌, ℕ, ◌+◌, ◌<◌, cond, eqb, List, [], length, get_or, set, take, refl, arith, length-set, get_or-set_same, get_or-set_other, inl, inr, ◌∙◌, ap}
use Rattle.std.proofs.lemmas.Bool.Decides.{nat_tests, eqb_tells}
use Rattle.std.proofs.lemmas.List.{get_or_read}
use Rattle.spatial_index.specs.Contents.{CellState, times, once_if, empty_cell}
use Rattle.spatial_index.specs.Levels.{nth_cell, times_moved, HasSameItems, HasForgotten, HasPromised, HasPut, HasTaken, HaveRoom, Stand}
use Rattle.spatial_index.proofs.TimesLemmas.{times-nil, times_more, times-take-le}

-- what holds of the cell that is set, and of each other cell, holds of each
pub nth-set : (P : ℕ → CellState → Type 0) (cells : List CellState) (n : ℕ) (cell : CellState) → n < length cells → P n cell → ((number : ℕ) → number ≢ n → P number (nth_cell cells number)) → (number : ℕ) → P number (nth_cell (set cells n cell) number)
nth-set P cells n cell inside here others number =
    elim (eqb_tells number n) [
      | inl same ↦ rw same.1 (rw (get_or-set_same cells n cell empty_cell inside) here)
      | inr different ↦ rw (get_or-set_other cells n number cell empty_cell different.1) (others number different.1)
    ]

pub HasPut-none : (cells : List CellState) (item : ℕ) → HasPut cells cells [] item
HasPut-none cells item =
    record {
      count = refl;
      items = λ number other. grind (arith, nat_tests, times-nil number);
      spare = λ number. grind (arith, times-nil number);
    }

pub HasTaken-none : (cells : List CellState) (item : ℕ) → HasTaken cells cells [] item
HasTaken-none cells item =
    record {
      count = refl;
      items = λ number other. grind (arith, nat_tests, times-nil number);
      spare = λ number. refl;
    }

pub HasForgotten-none : (cells : List CellState) → HasForgotten cells cells []
HasForgotten-none cells = record { spare = λ number. rw (times-nil number) }

pub HasPromised-none : (cells : List CellState) → HasPromised cells cells []
HasPromised-none cells = record { spare = λ number. grind (arith, times-nil number) }

-- the cell at place i of the numbers is edited next
module _ (old cells : List CellState) (numbers : List ℕ) (i n : ℕ) (before after : CellState) (inside : i < length numbers) (at : get_or numbers i 0 ≡ n) (within : n < length cells) (read : before ≡ get_or cells n before) where
  pub same_cell : before ≡ nth_cell cells n
  same_cell = get_or_read cells n before within read empty_cell

  pub HasSameItems-more : after.items ≡ before.items → HasSameItems old cells → HasSameItems old (set cells n after)
  HasSameItems-more items so_far =
      let here = same_cell in
      record {
        count = length-set cells n after ∙ so_far.count;
        items =
            nth-set (λ number state. state.items ≡ (nth_cell old number).items) cells n after within
            (items ∙ (ap (λ (state : CellState). state.items) here ∙ so_far.items n))
            (λ number different. so_far.items number);
      }

  pub HasForgotten-more : after.spare ≡ 0 → HasForgotten old cells (take i numbers) → HasForgotten old (set cells n after) (take (i + 1) numbers)
  HasForgotten-more spare so_far =
      record {
        spare =
            nth-set (λ number state. state.spare ≡ cond (eqb (times number (take (i + 1) numbers)) 0) (nth_cell old number).spare 0) cells n after within
            (grind (arith, nat_tests, times_more n numbers i 0 inside))
            (λ number different. grind (arith, nat_tests, so_far.spare number, times_more number numbers i 0 inside));
      }

  pub HasPromised-more : after.spare ≡ before.spare + 1 → HasPromised old cells (take i numbers) → HasPromised old (set cells n after) (take (i + 1) numbers)
  HasPromised-more spare so_far =
      let here = same_cell in
      record {
        spare =
            nth-set (λ number state. state.spare ≡ (nth_cell old number).spare + times number (take (i + 1) numbers)) cells n after within
            (grind (arith, nat_tests, so_far.spare n, times_more n numbers i 0 inside))
            (λ number different. grind (arith, nat_tests, so_far.spare number, times_more number numbers i 0 inside));
      }

  pub HasPut-more : (item : ℕ) → ((other : ℕ) → times other after.items ≡ times other before.items + once_if (eqb item other)) → after.spare + 1 ≡ before.spare → HasPut old cells (take i numbers) item → HasPut old (set cells n after) (take (i + 1) numbers) item
  HasPut-more item items spare so_far =
      let here = same_cell in
      record {
        count = length-set cells n after ∙ so_far.count;
        items =
            nth-set (λ number state. (other : ℕ) → times other state.items ≡ times other (nth_cell old number).items + times_moved (take (i + 1) numbers) item number other) cells n after within
            (λ other. grind (arith, nat_tests, items other, so_far.items n other, times_more n numbers i 0 inside))
            (λ number different other. grind (arith, nat_tests, so_far.items number other, times_more number numbers i 0 inside));
        spare =
            nth-set (λ number state. state.spare + times number (take (i + 1) numbers) ≡ (nth_cell old number).spare) cells n after within
            (grind (arith, nat_tests, so_far.spare n, times_more n numbers i 0 inside))
            (λ number different. grind (arith, nat_tests, so_far.spare number, times_more number numbers i 0 inside));
      }

  pub HasTaken-more : (item : ℕ) → ((other : ℕ) → times other after.items + once_if (eqb item other) ≡ times other before.items) → after.spare ≡ before.spare → HasTaken old cells (take i numbers) item → HasTaken old (set cells n after) (take (i + 1) numbers) item
  HasTaken-more item items spare so_far =
      let here = same_cell in
      record {
        count = length-set cells n after ∙ so_far.count;
        items =
            nth-set (λ number state. (other : ℕ) → times other state.items + times_moved (take (i + 1) numbers) item number other ≡ times other (nth_cell old number).items) cells n after within
            (λ other. grind (arith, nat_tests, items other, so_far.items n other, times_more n numbers i 0 inside))
            (λ number different other. grind (arith, nat_tests, so_far.items number other, times_more number numbers i 0 inside));
        spare =
            nth-set (λ number state. state.spare ≡ (nth_cell old number).spare) cells n after within
            (spare ∙ (ap (λ (state : CellState). state.spare) here ∙ so_far.spare n))
            (λ number different. so_far.spare number);
      }

  -- room that was there at first is there for the next item
  pub has_room : (item : ℕ) → HaveRoom old numbers → HasPut old cells (take i numbers) item → 0 < before.spare
  has_room item room so_far =
      let here = same_cell in
      grind (arith, nat_tests, room n, so_far.spare n, times_more n numbers i 0 inside, times-take-le n numbers (i + 1))

  -- an item that stood in every cell at first stands in the next one
  pub still_stands : (item : ℕ) → Stand old numbers item → HasTaken old cells (take i numbers) item → 0 < times item before.items
  still_stands item stand so_far =
      let here = same_cell in
      grind (arith, nat_tests, stand n, so_far.items n item, times_more n numbers i 0 inside, times-take-le n numbers (i + 1))
