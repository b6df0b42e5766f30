-- Bounds meet the cells of the points that they hold.
use Rattle.std.proofs.Common.{◌≡◌, ℕ, ◌*◌, ◌<◌, ◌≤◌, Bool, true, false, ◌&&◌, refl, sym, ◌∙◌, arith, add-zero, inl, inr, ℤ, pos, ◌-ℤ◌, ◌≤ℤ◌, ◌<ℤ◌, unsigned_abs, IsTrue}
use Rattle.std.proofs.lemmas.Bool.Decides.{nat_tests, eqb_tells}
use Rattle.std.proofs.lemmas.Bool.{false≢true}
use Rattle.std.proofs.lemmas.Int.{ints}
use Rattle.std.proofs.lemmas.Nat.{div-add-mod', mod_below, div-mul-add}
use Rattle.std.proofs.Math.Nat.{mul-le-mul_right}
use Rattle.fractions.specs.declared.rect.Rect.{Rect}
use Rattle.fractions.specs.Rect.{Holds}
use Rattle.spatial_index.specs.Cells.{side, line_of, level_of, is_between, is_met, AreCellsOfPoints}
use Rattle.spatial_index.proofs.PlanLemmas.{side-ge, line_of-in_order, is_met-some, is_met-empty, is_empty-true, is_empty-false, by_points, from_left_to_right, from_top_to_bottom}

first_of_column : (level : ℕ) (l r : ℤ) (column : ℕ) → pos 0 ≤ℤ l → l <ℤ r → line_of level l < column → column ≤ line_of level (r -ℤ pos 1) → (x : ℤ) × (l ≤ℤ x) × (x <ℤ r) × (line_of level x ≡ column)
first_of_column level l r column positive order low high =
    let some : 0 < side level = omega (arith, side-ge level) in
    let start = unsigned_abs l in
    let last = unsigned_abs (r -ℤ pos 1) in
    let above : start < column * side level = omega (arith, div-add-mod' start (side level), mod_below start (side level) some, mul-le-mul_right (side level) low) in
    let below : column * side level ≤ last = omega (arith, div-add-mod' last (side level), mul-le-mul_right (side level) high) in
    (pos (column * side level), omega (arith, ints), omega (arith, ints), rw add-zero at (div-mul-add column (side level) 0 some))

-- between the columns of the first and of the last coordinate each column has one of the coordinates
column_reached : (level : ℕ) (l r : ℤ) (column : ℕ) → pos 0 ≤ℤ l → l <ℤ r → line_of level l ≤ column → column ≤ line_of level (r -ℤ pos 1) → (x : ℤ) × (l ≤ℤ x) × (x <ℤ r) × (line_of level x ≡ column)
column_reached level l r column positive order low high =
    elim (eqb_tells (line_of level l) column) [
      | inl same ↦ (l, omega (arith, ints), order, same.1)
      | inr different ↦ first_of_column level l r column positive order (omega arith) high
    ]

abbrev Reaches : Rect → (column row : ℕ) → Type 0
Reaches bounds column row = (x : ℤ) × (y : ℤ) × Holds bounds x y × (line_of (level_of bounds) x ≡ column) × (line_of (level_of bounds) y ≡ row)

between_tells : (first last n : ℕ) → is_between first last n ≡ true → (first ≤ n) × (n ≤ last)
between_tells first last n h = (grind (arith, nat_tests), grind (arith, nat_tests))

between_from : (first last n : ℕ) → first ≤ n → n ≤ last → is_between first last n ≡ true
between_from first last n h h' = grind (arith, nat_tests)

both : (a b : Bool) → (a && b) ≡ true → (a ≡ true) × (b ≡ true)
both true b h = (refl, h)
both false b h = absurd (let no : ⊥ = cc in no)

met_reaches_some : (bounds : Rect) → pos 0 ≤ℤ bounds.l → pos 0 ≤ℤ bounds.t → bounds.l <ℤ bounds.r → bounds.t <ℤ bounds.b → (column row : ℕ) → IsTrue (is_met bounds (level_of bounds) column row) → Reaches bounds column row
met_reaches_some bounds left top across down column row met =
    let tests = both _ _ (sym (is_met-some bounds column row (is_empty-false bounds across down)) ∙ met) in
    let columns = between_tells (line_of (level_of bounds) bounds.l) (line_of (level_of bounds) (bounds.r -ℤ pos 1)) column tests.0 in
    let rows = between_tells (line_of (level_of bounds) bounds.t) (line_of (level_of bounds) (bounds.b -ℤ pos 1)) row tests.1 in
    let x = column_reached (level_of bounds) bounds.l bounds.r column left across columns.0 columns.1 in
    let y = column_reached (level_of bounds) bounds.t bounds.b row top down rows.0 rows.1 in
    (x.0, y.0, record { from_left = x.1; before_right = x.2; from_top = y.1; before_bottom = y.2 }, x.3, y.3)

met_reaches : (bounds : Rect) → pos 0 ≤ℤ bounds.l → pos 0 ≤ℤ bounds.t → (column row : ℕ) → IsTrue (is_met bounds (level_of bounds) column row) → Reaches bounds column row
met_reaches bounds left top column row met =
    by_points bounds
    (λ empty. absurd (false≢true (sym (is_met-empty bounds (level_of bounds) column row (is_empty-true bounds empty)) ∙ met)))
    (λ some. met_reaches_some bounds left top (from_left_to_right bounds some) (from_top_to_bottom bounds some) column row met)

met_at : (bounds : Rect) → pos 0 ≤ℤ bounds.l → pos 0 ≤ℤ bounds.t → (x y : ℤ) → Holds bounds x y → IsTrue (is_met bounds (level_of bounds) (line_of (level_of bounds) x) (line_of (level_of bounds) y))
met_at bounds left top x y holds =
    let level = level_of bounds in
    let across : bounds.l <ℤ bounds.r = omega (arith, ints, holds.from_left, holds.before_right) in
    let down : bounds.t <ℤ bounds.b = omega (arith, ints, holds.from_top, holds.before_bottom) in
    let columns : is_between (line_of level bounds.l) (line_of level (bounds.r -ℤ pos 1)) (line_of level x) ≡ true = between_from _ _ _ (line_of-in_order level bounds.l x left holds.from_left) (line_of-in_order level x (bounds.r -ℤ pos 1) (omega (arith, ints, holds.from_left)) (omega (arith, ints, holds.before_right))) in
    let rows : is_between (line_of level bounds.t) (line_of level (bounds.b -ℤ pos 1)) (line_of level y) ≡ true = between_from _ _ _ (line_of-in_order level bounds.t y top holds.from_top) (line_of-in_order level y (bounds.b -ℤ pos 1) (omega (arith, ints, holds.from_top)) (omega (arith, ints, holds.before_bottom))) in
    is_met-some bounds (line_of level x) (line_of level y) (is_empty-false bounds across down) ∙ rw (columns, rows)

reached_met : (bounds : Rect) → pos 0 ≤ℤ bounds.l → pos 0 ≤ℤ bounds.t → (column row : ℕ) → Reaches bounds column row → IsTrue (is_met bounds (level_of bounds) column row)
reached_met bounds left top column row (x, y, holds, at_column, at_row) =
    rw (at_column, at_row) at (met_at bounds left top x y holds)

pub AreCellsOfPoints-positive : (bounds : Rect) → pos 0 ≤ℤ bounds.l → pos 0 ≤ℤ bounds.t → AreCellsOfPoints bounds
AreCellsOfPoints-positive bounds left top column row = (met_reaches bounds left top column row, reached_met bounds left top column row)
