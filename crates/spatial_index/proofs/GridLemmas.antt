-- What the edit of one level's cells is for the grid: the cells whose numbers were given are those that the bounds meet.
use Rattle.std.proofs.Common.{◌≡◌, ◌≢◌, ℕ, ◌+◌, ◌*◌, ◌/◌, ◌%◌, ◌<◌, ◌≤◌, Bool, true, false, cond, not, ◌&&◌, eqb, take, List, [], ◌∷◌, length, get_or, set, refl, sym, ap, ◌∙◌, arith, inl, inr, length-set, get_or-set_same, get_or-set_other, subst, replicate, ℤ, pos, ◌≤ℤ◌, Result, Ok, Err, OnOk}
use Rattle.std.specs.List.{All}
use Rattle.std.specs.Str.{bytes_eq}
use Rattle.std.proofs.lemmas.Slice.Eq.{bytes_eq-Decides}
use Rattle.std.proofs.lemmas.Bool.Decides.{nat_tests, eqb_tells}
use Rattle.std.proofs.lemmas.List.Elements.{All-head, All-tail}
use Rattle.std.proofs.lemmas.Bool.{cases_lt}
use Rattle.std.proofs.lemmas.List.{get_or_read, get_or_past, get_or-replicate, length-replicate}
use Rattle.std.proofs.lemmas.Nat.{div_below, div-add-mod', mod_below, mul-add-lt}
use Rattle.fractions.specs.declared.rect.Rect.{Rect}
use Rattle.spatial_index.specs.declared.change.Change.{Change}
use Rattle.spatial_index.specs.Cells.{Region, IsCell, line_of, line_count, cell_number, is_met}
use Rattle.spatial_index.specs.Contents.{CellState, GridState, empty_cell, cell_at, times, once_if, StandsBy, StandsNowhere}
use Rattle.spatial_index.specs.Levels.{nth_cell, AreIn, HaveRoom, Stand, HasSameItems, HasForgotten, HasPromised, HasPut, HasTaken}
use Rattle.spatial_index.specs.Moves.{IsGrid, IsPlan, PutsIn, TakesOut, KeepsItems, HasNoRoomFor, HasMoreRoom, HasRoomFor, Moves}
use Rattle.spatial_index.proofs.TimesLemmas.{times-nil}
use Rattle.spatial_index.proofs.PlanLemmas.{times-cons, is_met-elsewhere, line_of-in_order}

-- the cells of a level
abbrev pub level_at : GridState → ℕ → List CellState
level_at grid level = get_or grid.levels level []

pub cell_at-is : (grid : GridState) (level column row : ℕ) → cell_at grid level column row ≡ nth_cell (level_at grid level) (cell_number grid.region.width level column row)
unfolding cell_at
cell_at-is grid level column row = refl

-- a number that is too large for each of a list stands nowhere in it
pub times-above : (m number : ℕ) (numbers : List ℕ) → All (λ n. n < m) numbers → m ≤ number → times number numbers ≡ 0
times-above m number [] h above = times-nil number
times-above m number (n ∷ numbers) h above =
    grind (arith, nat_tests, times-cons number n numbers, All-head (λ k. k < m) n numbers h, times-above m number numbers (All-tail (λ k. k < m) n numbers h) above)

-- what holds of each cell by its column and its row holds of each number of a cell
pub by_cell : (P : ℕ → Type 0) (columns rows : ℕ) → 0 < columns → ((column row : ℕ) → column < columns → row < rows → P (row * columns + column)) → (number : ℕ) → number < rows * columns → P number
by_cell P columns rows some holds number inside =
    subst P (div-add-mod' number columns) (holds (number % columns) (number / columns) (mod_below number columns some) (div_below number columns rows some inside))

by_lt : {P : Type 0} (m n : ℕ) → (m < n → P) → (n ≤ m → P) → P
by_lt {P} m n f g = elim (cases_lt m n) [ inl h ↦ f h | inr h ↦ g h ]

le_along : {a b m n : ℕ} → a ≡ b → m ≡ n → b ≤ m → a ≤ n
le_along e f h = omega arith

same_once : (a b : Bool) → once_if a ≡ once_if b → a ≡ b
same_once true true e = refl
same_once true false e = absurd (omega arith)
same_once false true e = absurd (omega arith)
same_once false false e = refl

le_same : {m n : ℕ} → n ≡ m → m ≤ n
le_same e = omega arith

nothing_more : (b : Bool) (n : ℕ) → n ≡ n + cond b 0 0
nothing_more true n = omega arith
nothing_more false n = omega arith

none_left : (spare n : ℕ) (met : Bool) → n ≡ once_if met → cond (eqb n 0) spare 0 ≡ cond met 0 spare
none_left spare n true e = rw e
none_left spare n false e = rw e

-- the grid with other cells in one level
abbrev pub with_level : GridState → ℕ → List CellState → GridState
with_level grid level cells = record { region = grid.region; levels = set grid.levels level cells }

module _ (grid : GridState) (bounds : Rect) (level : ℕ) (numbers : List ℕ) (is_grid : IsGrid grid) (plan : IsPlan grid bounds level numbers) where
  within_levels : level < length grid.levels
  within_levels = omega (arith, is_grid.levels, plan.inside)

  level_read : (before : List CellState) → before ≡ get_or grid.levels level before → before ≡ level_at grid level
  level_read before read = get_or_read grid.levels level before within_levels read []

  cell-same : (cells : List CellState) (column row : ℕ) → cell_at (with_level grid level cells) level column row ≡ nth_cell cells (cell_number grid.region.width level column row)
  unfolding cell_at
  cell-same cells column row = ap (λ (l : List CellState). nth_cell l (cell_number grid.region.width level column row)) (get_or-set_same grid.levels level cells [] within_levels)

  cell-other : (cells : List CellState) (l column row : ℕ) → l ≢ level → cell_at (with_level grid level cells) l column row ≡ cell_at grid l column row
  unfolding cell_at
  cell-other cells l column row different = ap (λ (k : List CellState). nth_cell k (cell_number grid.region.width l column row)) (get_or-set_other grid.levels level l cells [] different)

  none_met : (l column row : ℕ) → l ≢ level → is_met bounds l column row ≡ false
  none_met l column row different = is_met-elsewhere bounds l column row (λ same. different (same ∙ sym plan.at))

  IsGrid-level : (cells : List CellState) → length cells ≡ length (level_at grid level) → IsGrid (with_level grid level cells)
  IsGrid-level cells same =
      record {
        width = is_grid.width;
        height = is_grid.height;
        levels = length-set grid.levels level cells ∙ is_grid.levels;
        cells =
            λ l h.
            elim (eqb_tells l level) [
              | inl e ↦ rw e.1 (ap (λ (k : List CellState). length k) (get_or-set_same grid.levels level cells [] within_levels) ∙ (same ∙ is_grid.cells level plan.inside))
              | inr different ↦ ap (λ (k : List CellState). length k) (get_or-set_other grid.levels level l cells [] different.1) ∙ is_grid.cells l h
            ];
      }

  AreIn-level : AreIn (level_at grid level) numbers
  AreIn-level = rw (is_grid.cells level plan.inside) plan.within

  HaveRoom-level : HasRoomFor grid bounds → HaveRoom (level_at grid level) numbers
  HaveRoom-level room number =
      by_lt number (line_count level grid.region.height * line_count level grid.region.width)
      (by_cell (λ n. times n numbers ≤ (nth_cell (level_at grid level) n).spare) (line_count level grid.region.width) (line_count level grid.region.height) (omega arith)
      (λ column row in_columns in_rows. le_along (plan.met column row in_columns) (ap (λ (cell : CellState). cell.spare) (cell_at-is grid level column row)) (room level column row (record { in_levels = plan.inside; in_columns = in_columns; in_rows = in_rows }))) number)
      (λ above. omega (arith, times-above _ number numbers plan.within above))

  Stand-level : (item : ℕ) → StandsBy grid item bounds → Stand (level_at grid level) numbers item
  Stand-level item there number =
      by_lt number (line_count level grid.region.height * line_count level grid.region.width)
      (by_cell (λ n. times n numbers ≤ times item (nth_cell (level_at grid level) n).items) (line_count level grid.region.width) (line_count level grid.region.height) (omega arith)
      (λ column row in_columns in_rows. le_along (plan.met column row in_columns) (ap (λ (cell : CellState). times item cell.items) (cell_at-is grid level column row)) (le_same (there level column row (record { in_levels = plan.inside; in_columns = in_columns; in_rows = in_rows })))) number)
      (λ above. omega (arith, times-above _ number numbers plan.within above))

  PutsIn-level : (cells : List CellState) (item : ℕ) → HasPut (level_at grid level) cells numbers item → PutsIn grid (with_level grid level cells) item bounds
  PutsIn-level cells item put =
      record {
        region = refl;
        items =
            λ l column row cell other.
            elim (eqb_tells l level) [
              | inl e ↦ rw e.1 (rw (cell-same cells column row, cell_at-is grid level column row) (put.items (cell_number grid.region.width level column row) other ∙ ap (λ k. times other (nth_cell (level_at grid level) (cell_number grid.region.width level column row)).items + cond (eqb item other) k 0) (plan.met column row (rw e.1 at cell.in_columns))))
              | inr different ↦ rw (cell-other cells l column row different.1, none_met l column row different.1) (nothing_more (eqb item other) _)
            ];
        spare =
            λ l column row cell.
            elim (eqb_tells l level) [
              | inl e ↦ rw e.1 (rw (cell-same cells column row, cell_at-is grid level column row) (ap (λ k. (nth_cell cells (cell_number grid.region.width level column row)).spare + k) (sym (plan.met column row (rw e.1 at cell.in_columns))) ∙ put.spare (cell_number grid.region.width level column row)))
              | inr different ↦ rw (cell-other cells l column row different.1, none_met l column row different.1) (omega arith)
            ];
      }

  TakesOut-level : (cells : List CellState) (item : ℕ) → HasTaken (level_at grid level) cells numbers item → TakesOut grid (with_level grid level cells) item bounds
  TakesOut-level cells item taken =
      record {
        region = refl;
        items =
            λ l column row cell other.
            elim (eqb_tells l level) [
              | inl e ↦ rw e.1 (rw (cell-same cells column row, cell_at-is grid level column row) (ap (λ k. times other (nth_cell cells (cell_number grid.region.width level column row)).items + cond (eqb item other) k 0) (sym (plan.met column row (rw e.1 at cell.in_columns))) ∙ taken.items (cell_number grid.region.width level column row) other))
              | inr different ↦ rw (cell-other cells l column row different.1, none_met l column row different.1) (sym (nothing_more (eqb item other) _))
            ];
        spare =
            λ l column row cell.
            elim (eqb_tells l level) [
              | inl e ↦ rw e.1 (rw (cell-same cells column row, cell_at-is grid level column row) (taken.spare (cell_number grid.region.width level column row)))
              | inr different ↦ ap (λ (state : CellState). state.spare) (cell-other cells l column row different.1)
            ];
      }

  KeepsItems-level : (cells : List CellState) → HasSameItems (level_at grid level) cells → KeepsItems grid (with_level grid level cells)
  KeepsItems-level cells same =
      record {
        region = refl;
        items =
            λ l column row cell.
            elim (eqb_tells l level) [
              | inl e ↦ rw e.1 (rw (cell-same cells column row, cell_at-is grid level column row) (same.items (cell_number grid.region.width level column row)))
              | inr different ↦ ap (λ (state : CellState). state.items) (cell-other cells l column row different.1)
            ];
      }

  HasNoRoomFor-level : (cells : List CellState) → HasForgotten (level_at grid level) cells numbers → HasNoRoomFor grid (with_level grid level cells) bounds
  HasNoRoomFor-level cells forgotten =
      record {
        spare =
            λ l column row cell.
            elim (eqb_tells l level) [
              | inl e ↦ rw e.1 (rw (cell-same cells column row, cell_at-is grid level column row) (forgotten.spare (cell_number grid.region.width level column row) ∙ none_left _ _ (is_met bounds level column row) (plan.met column row (rw e.1 at cell.in_columns))))
              | inr different ↦ rw (cell-other cells l column row different.1, none_met l column row different.1) refl
            ];
      }

  HasMoreRoom-level : (cells : List CellState) → HasPromised (level_at grid level) cells numbers → HasMoreRoom grid (with_level grid level cells) bounds
  HasMoreRoom-level cells promised =
      record {
        spare =
            λ l column row cell.
            elim (eqb_tells l level) [
              | inl e ↦ rw e.1 (rw (cell-same cells column row, cell_at-is grid level column row) (promised.spare (cell_number grid.region.width level column row) ∙ ap (λ k. (nth_cell (level_at grid level) (cell_number grid.region.width level column row)).spare + k) (plan.met column row (rw e.1 at cell.in_columns))))
              | inr different ↦ rw (cell-other cells l column row different.1, none_met l column row different.1) (omega arith)
            ];
      }

-- the same of a grid that is opened: `was` is `now`, as its fields are
module _ (was now : GridState) (same : was ≡ now) (bounds : Rect) (level : ℕ) (numbers : List ℕ) (before cells : List CellState) (is_grid : IsGrid was) (plan : IsPlan now bounds level numbers) where
  plan_was : IsPlan was bounds level numbers
  plan_was = rw same plan

  pub in_levels : level < length was.levels
  in_levels = within_levels was bounds level numbers is_grid plan_was

  before_is : before ≡ get_or was.levels level before → before ≡ level_at was level
  before_is read = level_read was bounds level numbers is_grid plan_was before read

  pub AreIn-opened : before ≡ get_or was.levels level before → AreIn before numbers
  AreIn-opened read = rw (before_is read) (AreIn-level was bounds level numbers is_grid plan_was)

  pub HaveRoom-opened : before ≡ get_or was.levels level before → HasRoomFor now bounds → HaveRoom before numbers
  HaveRoom-opened read room = rw (before_is read) (HaveRoom-level was bounds level numbers is_grid plan_was (rw same room))

  pub Stand-opened : before ≡ get_or was.levels level before → (item : ℕ) → StandsBy now item bounds → Stand before numbers item
  Stand-opened read item there = rw (before_is read) (Stand-level was bounds level numbers is_grid plan_was item (rw same there))

  pub IsGrid-opened : before ≡ get_or was.levels level before → length cells ≡ length before → IsGrid (with_level was level cells)
  IsGrid-opened read count = IsGrid-level was bounds level numbers is_grid plan_was cells (count ∙ ap (λ (k : List CellState). length k) (before_is read))

  pub PutsIn-opened : before ≡ get_or was.levels level before → (item : ℕ) → HasPut before cells numbers item → PutsIn now (with_level was level cells) item bounds
  PutsIn-opened read item put = rw (← same) (PutsIn-level was bounds level numbers is_grid plan_was cells item (rw (before_is read) at put))

  pub TakesOut-opened : before ≡ get_or was.levels level before → (item : ℕ) → HasTaken before cells numbers item → TakesOut now (with_level was level cells) item bounds
  TakesOut-opened read item taken = rw (← same) (TakesOut-level was bounds level numbers is_grid plan_was cells item (rw (before_is read) at taken))

  pub KeepsItems-opened : before ≡ get_or was.levels level before → HasSameItems before cells → KeepsItems now (with_level was level cells)
  KeepsItems-opened read items = rw (← same) (KeepsItems-level was bounds level numbers is_grid plan_was cells (rw (before_is read) at items))

  pub HasNoRoomFor-opened : before ≡ get_or was.levels level before → HasForgotten before cells numbers → HasNoRoomFor now (with_level was level cells) bounds
  HasNoRoomFor-opened read forgotten = rw (← same) (HasNoRoomFor-level was bounds level numbers is_grid plan_was cells (rw (before_is read) at forgotten))

  pub HasMoreRoom-opened : before ≡ get_or was.levels level before → HasPromised before cells numbers → HasMoreRoom now (with_level was level cells) bounds
  HasMoreRoom-opened read promised = rw (← same) (HasMoreRoom-level was bounds level numbers is_grid plan_was cells (rw (before_is read) at promised))

-- a plan holds in each grid of the region
pub IsPlan-kept : (old new : GridState) (bounds : Rect) (level : ℕ) (numbers : List ℕ) → new.region ≡ old.region → IsPlan old bounds level numbers → IsPlan new bounds level numbers
IsPlan-kept old new bounds level numbers region plan =
    record { inside = plan.inside; at = plan.at; met = rw region plan.met; within = rw region plan.within }

-- what a test of two plans says that found no difference
pub same_plan : (level level' count count' : ℕ) (cells cells' : List ℕ) (differ : Bool) → differ ≡ not (eqb level level' && (bytes_eq cells cells' && eqb count count')) → differ ≡ false → (level ≡ level') × (take count cells ≡ take count' cells')
same_plan level level' count count' cells cells' differ e same =
    let equal = (bytes_eq-Decides cells cells').0 in
    let levels : level ≡ level' = grind (arith, nat_tests) in
    let counts : count ≡ count' = grind (arith, nat_tests) in
    let lists : bytes_eq cells cells' ≡ true = grind (arith, nat_tests) in
    (levels, rw (counts, equal lists))

-- bounds with the same plan meet the same cells
pub is_met-same : (grid : GridState) (old new : Rect) (level : ℕ) (numbers : List ℕ) → IsPlan grid old level numbers → IsPlan grid new level numbers → (l column row : ℕ) → IsCell grid.region l column row → is_met old l column row ≡ is_met new l column row
is_met-same grid old new level numbers here there l column row cell =
    elim (eqb_tells l level) [
      | inl e ↦ rw e.1 (same_once (is_met old level column row) (is_met new level column row) (sym (here.met column row (rw e.1 at cell.in_columns)) ∙ there.met column row (rw e.1 at cell.in_columns)))
      | inr different ↦ is_met-elsewhere old l column row (λ same. different.1 (same ∙ sym here.at)) ∙ sym (is_met-elsewhere new l column row (λ same. different.1 (same ∙ sym there.at)))
    ]

-- an item whose cells stay the same stands by its new bounds already
pub Moves-none : (grid : GridState) (change : Change) (level : ℕ) (numbers : List ℕ) → IsPlan grid change.old level numbers → IsPlan grid change.new level numbers → StandsBy grid change.item change.old → Moves grid grid change
Moves-none grid change level numbers here there stands =
    record {
      region = refl;
      moved = λ l column row cell. stands l column row cell ∙ ap once_if (is_met-same grid change.old change.new level numbers here there l column row cell);
      others = λ item different l column row cell. refl;
      spare = λ l column row cell. omega arith;
    }

-- a point of the region lies in one of its cells
pub IsCell-point : (region : Region) (level : ℕ) (x y : ℤ) → level ≤ 9 → pos 0 ≤ℤ x → x ≤ℤ region.width → pos 0 ≤ℤ y → y ≤ℤ region.height → IsCell region level (line_of level x) (line_of level y)
IsCell-point region level x y level_in left right top bottom =
    record {
      in_levels = level_in;
      in_columns = omega (arith, line_of-in_order level x region.width left right);
      in_rows = omega (arith, line_of-in_order level y region.height top bottom);
    }

pub cell-inside : (grid : GridState) (level column row : ℕ) → IsGrid grid → IsCell grid.region level column row → cell_number grid.region.width level column row < length (level_at grid level)
cell-inside grid level column row is_grid cell =
    omega (arith, is_grid.cells level cell.in_levels, mul-add-lt row (line_count level grid.region.width) column (line_count level grid.region.height) cell.in_rows cell.in_columns)

pub level_read-at : (grid : GridState) (level : ℕ) (before : List CellState) → IsGrid grid → level ≤ 9 → before ≡ get_or grid.levels level before → before ≡ level_at grid level
level_read-at grid level before is_grid level_in read = get_or_read grid.levels level before (omega (arith, is_grid.levels)) read []

-- a cell of a new level is empty, and so is what is no cell
pub nth_cell-empty : (count number : ℕ) → nth_cell (replicate count empty_cell) number ≡ empty_cell
nth_cell-empty count number =
    by_lt number count
    (λ inside. get_or-replicate count number empty_cell empty_cell inside)
    (λ past. get_or_past (replicate count empty_cell) number empty_cell (omega (arith, length-replicate count empty_cell)))

pub StandsNowhere-new : (grid : GridState) → ((level : ℕ) → level < 10 → level_at grid level ≡ replicate (line_count level grid.region.height * line_count level grid.region.width) empty_cell) → (item : ℕ) → StandsNowhere grid item
StandsNowhere-new grid empty item level column row cell =
    let in_levels : level < 10 = omega (arith, cell.in_levels) in
    rw (cell_at-is grid level column row, empty level in_levels, nth_cell-empty (line_count level grid.region.height * line_count level grid.region.width) (cell_number grid.region.width level column row)) (times-nil item)

pub OnOk-map : {T E : Type 0} (r : Result T E) (P Q : Type 0) → (P → Q) → OnOk r P → OnOk r Q
OnOk-map (Ok x) P Q f h = f h
OnOk-map (Err e) P Q f h = h
