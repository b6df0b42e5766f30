-- The level of bounds, and the at most two columns and two rows of cells that they meet in it.
use Rattle.std.proofs.Common.{◌≡◌, ◌≢◌, eq-eqb, get_or, ℕ, zero, suc, ◌+◌, ◌-◌, ◌*◌, ◌/◌, ◌^◌, ◌<◌, ◌≤◌, Bool, true, false, cond, not, ◌&&◌, eqb, leb, ltb, List, [], ◌∷◌, ◌++◌, map, refl, sym, ap, ◌∙◌, arith, add-zero, inl, inr, ℤ, pos, ◌-ℤ◌, ◌+ℤ◌, ◌≤ℤ◌, ◌<ℤ◌, unsigned_abs, int_le, to_z, of_z, w64}
use Rattle.std.specs.List.{range_with_len, flat_map, All}
use Rattle.std.proofs.lemmas.Bool.Decides.{nat_tests, same_from_decides, Decides-like, Decides-and, Decides-eqb}
use Rattle.std.proofs.lemmas.Int.{ints, by_lt_z, to_z-of_z, fits_signed_from_abs}
use Rattle.std.proofs.lemmas.Nat.{pow-add, pow_pos, div_below, le-div, div-add-mod', mod_below, same_from_place, mul-add-lt}
use Rattle.std.proofs.Math.Nat.{div-le_of_le-mul, mul-le-mul_right}
use Rattle.std.proofs.Math.Pow.{pow_mono}
use Rattle.std.proofs.lemmas.List.Elements.{All-nil, All-cons, All-append}
use Rattle.std.proofs.lemmas.List.Sums.{sum_by-cons, sum_by-append}
use Rattle.fractions.specs.declared.rect.Rect.{Rect}
use Rattle.fractions.specs.Rect.{IsEmpty}
use Rattle.spatial_index.specs.Cells.{side, line_of, line_count, is_empty, is_large_enough, least_level, level_of, is_between, is_met, numbers_of, cells_met, Region, IsSide, IsInside, IsEmptyOrInside, largest, highest_of, cell_number}
use Rattle.spatial_index.specs.Contents.{times, once_if}
use Rattle.spatial_index.proofs.TimesLemmas.{times-nil}

pub side-ge : (level : ℕ) → 4096 ≤ side level
side-ge level = omega (arith, pow-add 2 12 level, pow_pos level)

pub side-le : (level : ℕ) → level ≤ 9 → side level ≤ 2 ^ 22
side-le level h =
    let shift : 12 + level ≤ 22 = omega arith in
    pow_mono shift

pub line_of-small : (level : ℕ) (x : ℤ) → unsigned_abs x ≤ 2 ^ 20 → line_of level x ≤ 256
line_of-small level x h = div-le_of_le-mul (side level) (omega (arith, side-ge level))

-- coordinates in order lie in columns in order
pub quotients_in_order : (u a z : ℕ) → 0 < u → a ≤ z → a / u ≤ z / u
quotients_in_order u a z positive h = le-div (a / u) z u positive (omega (arith, div-add-mod' a u))

-- and those that are less than a side apart, in the same column or in the next
pub quotients_near : (u a z : ℕ) → 0 < u → z < a + u → z / u ≤ a / u + 1
quotients_near u a z positive h =
    omega (arith, div_below z u (a / u + 2) positive (omega (arith, div-add-mod' a u, mod_below a u positive)))

le_either : (b : Bool) (m n k : ℕ) → m ≤ k → n ≤ k → cond b m n ≤ k
le_either true m n k h h' = h
le_either false m n k h h' = h'

one_more : (b : Bool) (left column width : ℕ) → once_if (b && eqb left column) + once_if (b && (leb (left + 1) column && ltb column (left + 1 + width))) ≡ once_if (b && (leb left column && ltb column (left + suc width)))
one_more true left column width = grind (arith, nat_tests)
one_more false left column width = refl

one_row_more : (b : Bool) (top row height : ℕ) → once_if (eqb top row && b) + once_if (b && (leb (top + 1) row && ltb row (top + 1 + height))) ≡ once_if (b && (leb top row && ltb row (top + suc height)))
one_row_more true top row height = grind (arith, nat_tests)
one_row_more false top row height = grind (arith, nat_tests)

last_ones : (left right column top bottom row : ℕ) → once_if ((leb left column && ltb column (suc right)) && (leb top row && ltb row (suc bottom))) ≡ once_if (is_between left right column && is_between top bottom row)
last_ones left right column top bottom row = grind (arith, nat_tests)

here : (bounds : Rect) (level more : ℕ) → is_large_enough bounds level ≡ true → least_level bounds level (suc more) ≡ level
unfolding least_level
here bounds level more large = ap (λ (b : Bool). cond b level (least_level bounds (level + 1) more)) large

next : (bounds : Rect) (level more : ℕ) → is_large_enough bounds level ≡ false → least_level bounds level (suc more) ≡ least_level bounds (level + 1) more
unfolding least_level
next bounds level more small = ap (λ (b : Bool). cond b level (least_level bounds (level + 1) more)) small

pub least_level-here : (bounds : Rect) (level : ℕ) → level < 9 → is_large_enough bounds level ≡ true → least_level bounds level (9 - level) ≡ level
least_level-here bounds level h large =
    let e : 9 - level ≡ suc (8 - level) = omega arith in
    rw e (here bounds level (8 - level) large)

pub least_level-next : (bounds : Rect) (level : ℕ) → level < 9 → is_large_enough bounds level ≡ false → least_level bounds level (9 - level) ≡ least_level bounds (level + 1) (9 - (level + 1))
least_level-next bounds level h small =
    let e : 9 - level ≡ suc (8 - level) = omega arith in
    let f : 9 - (level + 1) ≡ 8 - level = omega arith in
    rw (e, f) (next bounds level (8 - level) small)

pub least_level-le : (bounds : Rect) (level more : ℕ) → least_level bounds level more ≤ level + more
unfolding least_level
least_level-le bounds level zero = omega arith
least_level-le bounds level (suc more) = le_either (is_large_enough bounds level) level (least_level bounds (level + 1) more) (level + suc more) (omega arith) (omega (arith, least_level-le bounds (level + 1) more))

large_either : (bounds : Rect) (level other : ℕ) (b : Bool) → is_large_enough bounds level ≡ b → (b ≡ false → is_large_enough bounds other ≡ true) → is_large_enough bounds (cond b level other) ≡ true
large_either bounds level other true e rest = e
large_either bounds level other false e rest = rest refl

-- where the last level is large enough, so is the least
pub least_level-large : (bounds : Rect) (level more : ℕ) → is_large_enough bounds (level + more) ≡ true → is_large_enough bounds (least_level bounds level more) ≡ true
unfolding least_level
least_level-large bounds level zero h = rw add-zero at h
least_level-large bounds level (suc more) h =
    let e : level + 1 + more ≡ level + suc more = omega arith in
    large_either bounds level (least_level bounds (level + 1) more) (is_large_enough bounds level) refl (λ _. least_level-large bounds (level + 1) more (rw e h))

-- cells of rows of equal length have one number only where they are the same
pub same_number : (columns row column row' column' : ℕ) → column < columns → column' < columns → eqb (row' * columns + column') (row * columns + column) ≡ (eqb row' row && eqb column' column)
same_number columns row column row' column' h h' =
    same_from_decides {P = (row' ≡ row) × (column' ≡ column)} _ _
    (Decides-like _ (λ e. same_from_place row' column' row column columns h' h e) (λ q. rw (q.0, q.1)) (Decides-eqb (row' * columns + column') (row * columns + column)))
    (Decides-and _ _ (Decides-eqb row' row) (Decides-eqb column' column))

pub times-cons : (number first : ℕ) (rest : List ℕ) → times number (first ∷ rest) ≡ once_if (eqb first number) + times number rest
unfolding times
times-cons number first rest = sum_by-cons (λ other. cond (eqb other number) 1 0) first rest

pub times-append : (number : ℕ) (xs ys : List ℕ) → times number (xs ++ ys) ≡ times number xs + times number ys
unfolding times
times-append number xs ys = sum_by-append (λ other. cond (eqb other number) 1 0) xs ys

-- so many successive cells of a row, and so many successive rows of them
abbrev part_of_row : (columns row left width : ℕ) → List ℕ
part_of_row columns row left width = map (λ column. row * columns + column) (range_with_len left width)

abbrev part_of_rows : (columns left width top height : ℕ) → List ℕ
part_of_rows columns left width top height = flat_map (λ row. part_of_row columns row left width) (range_with_len top height)

times-row : (columns row column row' left width : ℕ) → column < columns → left + width ≤ columns → times (row * columns + column) (part_of_row columns row' left width) ≡ once_if (eqb row' row && (leb left column && ltb column (left + width)))
times-row columns row column row' left zero h fits = grind (arith, nat_tests, times-nil (row * columns + column))
times-row columns row column row' left (suc width) h fits =
    let e = times-cons (row * columns + column) (row' * columns + left) (part_of_row columns row' (left + 1) width) in
    let first : eqb (row' * columns + left) (row * columns + column) ≡ (eqb row' row && eqb left column) = same_number columns row column row' left h (omega arith) in
    let rest = times-row columns row column row' (left + 1) width h (omega arith) in
    e ∙ rw (first, rest) (one_more (eqb row' row) left column width)

times-rows : (columns row column left width top height : ℕ) → column < columns → left + width ≤ columns → times (row * columns + column) (part_of_rows columns left width top height) ≡ once_if ((leb left column && ltb column (left + width)) && (leb top row && ltb row (top + height)))
times-rows columns row column left width top zero h fits = grind (arith, nat_tests, times-nil (row * columns + column))
times-rows columns row column left width top (suc height) h fits =
    let e = times-append (row * columns + column) (part_of_row columns top left width) (part_of_rows columns left width (top + 1) height) in
    let first = times-row columns row column top left width h fits in
    let rest = times-rows columns row column left width (top + 1) height h fits in
    e ∙ rw (first, rest) (one_row_more (leb left column && ltb column (left + width)) top row height)

pub times-numbers_of : (columns row column left right top bottom : ℕ) → column < columns → right < columns → left ≤ right → top ≤ bottom → times (row * columns + column) (numbers_of columns left right top bottom) ≡ once_if (is_between left right column && is_between top bottom row)
times-numbers_of columns row column left right top bottom h h' across down =
    let e : left + (suc right - left) ≡ suc right = omega arith in
    let f : top + (suc bottom - top) ≡ suc bottom = omega arith in
    times-rows columns row column left (suc right - left) top (suc bottom - top) h (omega arith) ∙ rw (e, f) (last_ones left right column top bottom row)

numbers-in_row : (columns rows row left width : ℕ) → row < rows → left + width ≤ columns → All (λ number. number < rows * columns) (part_of_row columns row left width)
numbers-in_row columns rows row left zero h fits = All-nil (λ number. number < rows * columns)
numbers-in_row columns rows row left (suc width) h fits =
    All-cons (λ number. number < rows * columns) _ _ (omega (arith, mul-add-lt row columns left rows h (omega arith))) (numbers-in_row columns rows row (left + 1) width h (omega arith))

numbers-in_rows : (columns rows left width top height : ℕ) → top + height ≤ rows → left + width ≤ columns → All (λ number. number < rows * columns) (part_of_rows columns left width top height)
numbers-in_rows columns rows left width top zero h fits = All-nil (λ number. number < rows * columns)
numbers-in_rows columns rows left width top (suc height) h fits =
    All-append (λ number. number < rows * columns) _ _ (numbers-in_row columns rows top left width (omega arith) fits) (numbers-in_rows columns rows left width (top + 1) height (omega arith) fits)

pub numbers_of-within : (columns rows left right top bottom : ℕ) → right < columns → bottom < rows → left ≤ right → top ≤ bottom → All (λ number. number < rows * columns) (numbers_of columns left right top bottom)
numbers_of-within columns rows left right top bottom h h' across down =
    numbers-in_rows columns rows left (suc right - left) top (suc bottom - top) (omega arith) (omega arith)

pub is_empty-false : (bounds : Rect) → bounds.l <ℤ bounds.r → bounds.t <ℤ bounds.b → is_empty bounds ≡ false
is_empty-false bounds across down = grind (arith, ints)

pub level_of-some : (bounds : Rect) → bounds.l <ℤ bounds.r → bounds.t <ℤ bounds.b → level_of bounds ≡ least_level bounds 0 9
unfolding level_of
level_of-some bounds across down = rw (is_empty-false bounds across down)

pub is_empty-true : (bounds : Rect) → IsEmpty bounds → is_empty bounds ≡ true
is_empty-true bounds h = grind (arith, ints)

pub level_of-empty : (bounds : Rect) → is_empty bounds ≡ true → level_of bounds ≡ 0
unfolding level_of
level_of-empty bounds h = rw h

pub cells_met-empty : (width : ℤ) (bounds : Rect) → is_empty bounds ≡ true → cells_met width bounds ≡ []
unfolding cells_met
cells_met-empty width bounds h = rw h

-- bounds that lie in a region lie in the largest one
pub IsInside-largest : (region : Region) (bounds : Rect) → IsSide region.width → IsSide region.height → IsInside region bounds → IsInside largest bounds
IsInside-largest region bounds width height inside =
    record {
      from_left = inside.from_left;
      from_top = inside.from_top;
      to_right = omega (arith, ints, inside.to_right, width.greatest);
      to_bottom = omega (arith, ints, inside.to_bottom, height.greatest);
    }

large_at_top : (bounds : Rect) → IsInside largest bounds → is_large_enough bounds 9 ≡ true
large_at_top bounds inside = grind (arith, ints, inside.from_left, inside.from_top, inside.to_right, inside.to_bottom)

large_tells : (bounds : Rect) (level : ℕ) → is_large_enough bounds level ≡ true → ((bounds.r -ℤ bounds.l) ≤ℤ pos (side level)) × ((bounds.b -ℤ bounds.t) ≤ℤ pos (side level))
large_tells bounds level h = (grind (arith, ints), grind (arith, ints))

pub line_of-in_order : (level : ℕ) (x z : ℤ) → pos 0 ≤ℤ x → x ≤ℤ z → line_of level x ≤ line_of level z
line_of-in_order level x z from order =
    quotients_in_order (side level) (unsigned_abs x) (unsigned_abs z) (omega (arith, side-ge level)) (omega (arith, ints))

line_of-near : (level : ℕ) (x z : ℤ) → pos 0 ≤ℤ x → x <ℤ z → (z -ℤ x) ≤ℤ pos (side level) → line_of level (z -ℤ pos 1) ≤ line_of level x + 1
line_of-near level x z from order near =
    quotients_near (side level) (unsigned_abs x) (unsigned_abs (z -ℤ pos 1)) (omega (arith, side-ge level)) (omega (arith, ints))

-- where the first and the last points of bounds lie, in the level of the bounds
pub record AreNear (bounds : Rect) : Type 0 where
  pub level : level_of bounds ≤ 9
  pub left_right : line_of (level_of bounds) bounds.l ≤ line_of (level_of bounds) (bounds.r -ℤ pos 1)
  pub right_left : line_of (level_of bounds) (bounds.r -ℤ pos 1) ≤ line_of (level_of bounds) bounds.l + 1
  pub top_bottom : line_of (level_of bounds) bounds.t ≤ line_of (level_of bounds) (bounds.b -ℤ pos 1)
  pub bottom_top : line_of (level_of bounds) (bounds.b -ℤ pos 1) ≤ line_of (level_of bounds) bounds.t + 1

pub AreNear-inside : (bounds : Rect) → bounds.l <ℤ bounds.r → bounds.t <ℤ bounds.b → IsInside largest bounds → AreNear bounds
AreNear-inside bounds across down inside =
    let least : level_of bounds ≡ least_level bounds 0 9 = level_of-some bounds across down in
    let large : is_large_enough bounds (level_of bounds) ≡ true = rw least (least_level-large bounds 0 9 (large_at_top bounds inside)) in
    let fits = large_tells bounds (level_of bounds) large in
    record {
      level = rw least (least_level-le bounds 0 9);
      left_right = line_of-in_order (level_of bounds) bounds.l (bounds.r -ℤ pos 1) inside.from_left (omega (arith, ints));
      right_left = line_of-near (level_of bounds) bounds.l bounds.r inside.from_left across fits.0;
      top_bottom = line_of-in_order (level_of bounds) bounds.t (bounds.b -ℤ pos 1) inside.from_top (omega (arith, ints));
      bottom_top = line_of-near (level_of bounds) bounds.t bounds.b inside.from_top down fits.1;
    }

pub cells_met-some : (width : ℤ) (bounds : Rect) → is_empty bounds ≡ false → cells_met width bounds ≡ numbers_of (line_count (level_of bounds) width) (line_of (level_of bounds) bounds.l) (line_of (level_of bounds) (bounds.r -ℤ pos 1)) (line_of (level_of bounds) bounds.t) (line_of (level_of bounds) (bounds.b -ℤ pos 1))
unfolding cells_met
cells_met-some width bounds h = rw h

-- a number of this size is what its 64 bits say
pub same_bits : (z : ℤ) → unsigned_abs z ≤ 2 ^ 22 → to_z w64 (of_z w64 z) ≡ z
same_bits z h = to_z-of_z w64 z (fits_signed_from_abs w64 z (omega arith))

-- so are the edges of bounds, and what is computed from them
pub record HaveSameBits (bounds : Rect) : Type 0 where
  pub left : to_z w64 (of_z w64 bounds.l) ≡ bounds.l
  pub top : to_z w64 (of_z w64 bounds.t) ≡ bounds.t
  pub right : to_z w64 (of_z w64 bounds.r) ≡ bounds.r
  pub bottom : to_z w64 (of_z w64 bounds.b) ≡ bounds.b
  pub width : to_z w64 (of_z w64 (bounds.r -ℤ bounds.l)) ≡ bounds.r -ℤ bounds.l
  pub height : to_z w64 (of_z w64 (bounds.b -ℤ bounds.t)) ≡ bounds.b -ℤ bounds.t
  pub last_x : to_z w64 (of_z w64 (bounds.r -ℤ pos 1)) ≡ bounds.r -ℤ pos 1
  pub last_y : to_z w64 (of_z w64 (bounds.b -ℤ pos 1)) ≡ bounds.b -ℤ pos 1

pub HaveSameBits-inside : (bounds : Rect) → bounds.l <ℤ bounds.r → bounds.t <ℤ bounds.b → IsInside largest bounds → HaveSameBits bounds
HaveSameBits-inside bounds across down inside =
    record {
      left = same_bits bounds.l (omega (arith, ints));
      top = same_bits bounds.t (omega (arith, ints));
      right = same_bits bounds.r (omega (arith, ints));
      bottom = same_bits bounds.b (omega (arith, ints));
      width = same_bits (bounds.r -ℤ bounds.l) (omega (arith, ints));
      height = same_bits (bounds.b -ℤ bounds.t) (omega (arith, ints));
      last_x = same_bits (bounds.r -ℤ pos 1) (omega (arith, ints));
      last_y = same_bits (bounds.b -ℤ pos 1) (omega (arith, ints));
    }

-- bounds that are no wider than a level's cells fit where they are no higher
pub is_large_enough-wide : (bounds : Rect) (level : ℕ) → int_le (bounds.r -ℤ bounds.l) (pos (side level)) ≡ true → int_le (bounds.b -ℤ bounds.t) (pos (side level)) ≡ is_large_enough bounds level
is_large_enough-wide bounds level h = ap (λ (b : Bool). b && int_le (bounds.b -ℤ bounds.t) (pos (side level))) (sym h)

pub least_level-last : (bounds : Rect) (level : ℕ) → least_level bounds level 0 ≡ level
unfolding least_level
least_level-last bounds level = refl

by_le : (a b : ℤ) → (a ≤ℤ b → b <ℤ a) → b <ℤ a
by_le a b f = by_lt_z b a (λ h. h) f

pub IsInside-largest_from_highest : (width : ℤ) (bounds : Rect) → IsSide width → IsInside (highest_of width) bounds → IsInside largest bounds
IsInside-largest_from_highest width bounds side inside =
    IsInside-largest (highest_of width) bounds side (record { least = omega (arith, ints); greatest = omega (arith, ints) }) inside

pub from_left_to_right : (bounds : Rect) → (IsEmpty bounds → ⊥) → bounds.l <ℤ bounds.r
from_left_to_right bounds h = by_le bounds.r bounds.l (λ e. absurd (h (inl e)))

pub from_top_to_bottom : (bounds : Rect) → (IsEmpty bounds → ⊥) → bounds.t <ℤ bounds.b
from_top_to_bottom bounds h = by_le bounds.b bounds.t (λ e. absurd (h (inr e)))

pub inside_if_some : (region : Region) (bounds : Rect) → (IsEmpty bounds → ⊥) → IsEmptyOrInside region bounds → IsInside region bounds
inside_if_some region bounds h (inl e) = absurd (h e)
inside_if_some region bounds h (inr i) = i

not_both : (bounds : Rect) → bounds.l <ℤ bounds.r → bounds.t <ℤ bounds.b → IsEmpty bounds → ⊥
not_both bounds across down (inl e) = omega (arith, ints)
not_both bounds across down (inr e) = omega (arith, ints)

pub by_points : {P : Type 0} (bounds : Rect) → (IsEmpty bounds → P) → ((IsEmpty bounds → ⊥) → P) → P
by_points {P} bounds f g =
    by_lt_z bounds.l bounds.r
    (λ across. by_lt_z bounds.t bounds.b (λ down. g (λ empty. not_both bounds across down empty)) (λ e. f (inr e)))
    (λ e. f (inl e))

times-cells_met-empty : (width : ℤ) (bounds : Rect) (column row : ℕ) → is_empty bounds ≡ true → times (cell_number width (level_of bounds) column row) (cells_met width bounds) ≡ once_if (is_met bounds (level_of bounds) column row)
unfolding is_met
times-cells_met-empty width bounds column row empty = rw (cells_met-empty width bounds empty, empty) (times-nil (cell_number width (level_of bounds) column row))

last_column : (level : ℕ) (width r : ℤ) → pos 0 <ℤ r → r ≤ℤ (width +ℤ pos 1) → line_of level (r -ℤ pos 1) < line_count level width
last_column level width r positive h = omega (arith, line_of-in_order level (r -ℤ pos 1) width (omega (arith, ints)) (omega (arith, ints)))

pub is_met-some : (bounds : Rect) (column row : ℕ) → is_empty bounds ≡ false → is_met bounds (level_of bounds) column row ≡ (is_between (line_of (level_of bounds) bounds.l) (line_of (level_of bounds) (bounds.r -ℤ pos 1)) column && is_between (line_of (level_of bounds) bounds.t) (line_of (level_of bounds) (bounds.b -ℤ pos 1)) row)
unfolding is_met
is_met-some bounds column row some = rw (some, eq-eqb (level_of bounds) (level_of bounds) refl)

times-cells_met-some : (width : ℤ) (bounds : Rect) (column row : ℕ) → IsSide width → bounds.l <ℤ bounds.r → bounds.t <ℤ bounds.b → IsInside (highest_of width) bounds → column < line_count (level_of bounds) width → times (cell_number width (level_of bounds) column row) (cells_met width bounds) ≡ once_if (is_met bounds (level_of bounds) column row)
times-cells_met-some width bounds column row side across down inside within =
    let near = AreNear-inside bounds across down (IsInside-largest_from_highest width bounds side inside) in
    let some = is_empty-false bounds across down in
    let last = last_column (level_of bounds) width bounds.r (omega (arith, ints)) inside.to_right in
    rw (cells_met-some width bounds some, is_met-some bounds column row some)
    (times-numbers_of (line_count (level_of bounds) width) row column _ _ _ _ within last near.left_right near.top_bottom)

-- a number is among those of the met cells where its cell is met, and once
pub times-cells_met : (width : ℤ) (bounds : Rect) (column row : ℕ) → IsSide width → IsEmptyOrInside (highest_of width) bounds → column < line_count (level_of bounds) width → times (cell_number width (level_of bounds) column row) (cells_met width bounds) ≡ once_if (is_met bounds (level_of bounds) column row)
times-cells_met width bounds column row side inside within =
    by_points bounds (λ empty. times-cells_met-empty width bounds column row (is_empty-true bounds empty))
    (λ some. times-cells_met-some width bounds column row side (from_left_to_right bounds some) (from_top_to_bottom bounds some) (inside_if_some (highest_of width) bounds some inside) within)

cells_met-within_some : (region : Region) (bounds : Rect) → IsSide region.width → IsSide region.height → bounds.l <ℤ bounds.r → bounds.t <ℤ bounds.b → IsInside region bounds → All (λ number. number < line_count (level_of bounds) region.height * line_count (level_of bounds) region.width) (cells_met region.width bounds)
cells_met-within_some region bounds width height across down inside =
    let near = AreNear-inside bounds across down (IsInside-largest region bounds width height inside) in
    let last_x = last_column (level_of bounds) region.width bounds.r (omega (arith, ints)) inside.to_right in
    let last_y = last_column (level_of bounds) region.height bounds.b (omega (arith, ints)) inside.to_bottom in
    rw (cells_met-some region.width bounds (is_empty-false bounds across down))
    (numbers_of-within (line_count (level_of bounds) region.width) (line_count (level_of bounds) region.height) _ _ _ _ last_x last_y near.left_right near.top_bottom)

elsewhere : (empty : Bool) (level other : ℕ) (rest : Bool) → level ≢ other → (not empty && (eqb level other && rest)) ≡ false
elsewhere true level other rest h = refl
elsewhere false level other rest h = grind (arith, nat_tests)

-- the met cells are cells of the region
pub cells_met-within : (region : Region) (bounds : Rect) → IsSide region.width → IsSide region.height → IsEmptyOrInside region bounds → All (λ number. number < line_count (level_of bounds) region.height * line_count (level_of bounds) region.width) (cells_met region.width bounds)
cells_met-within region bounds width height inside =
    by_points bounds
    (λ empty. rw (cells_met-empty region.width bounds (is_empty-true bounds empty)) (All-nil (λ number. number < line_count (level_of bounds) region.height * line_count (level_of bounds) region.width)))
    (λ some. cells_met-within_some region bounds width height (from_left_to_right bounds some) (from_top_to_bottom bounds some) (inside_if_some region bounds some inside))

-- no cell of another level is met
pub is_met-elsewhere : (bounds : Rect) (level column row : ℕ) → level ≢ level_of bounds → is_met bounds level column row ≡ false
unfolding is_met
is_met-elsewhere bounds level column row h = elsewhere (is_empty bounds) level (level_of bounds) _ h

pub is_met-empty : (bounds : Rect) (level column row : ℕ) → is_empty bounds ≡ true → is_met bounds level column row ≡ false
unfolding is_met
is_met-empty bounds level column row h = rw h

pub highest_if_inside : (region : Region) (bounds : Rect) → IsSide region.height → IsEmptyOrInside region bounds → IsEmptyOrInside (highest_of region.width) bounds
highest_if_inside region bounds height (inl e) = inl e
highest_if_inside region bounds height (inr i) =
    inr (record { from_left = i.from_left; from_top = i.from_top; to_right = i.to_right; to_bottom = omega (arith, ints, i.to_bottom, height.greatest) })

-- the numbers of a block rise
pub rising_two : (a b : ℕ) → a < b → (i : ℕ) → i + 1 < 2 → get_or (a ∷ b ∷ 0 ∷ 0 ∷ []) i 0 < get_or (a ∷ b ∷ 0 ∷ 0 ∷ []) (i + 1) 0
rising_two a b h zero inside = h
rising_two a b h (suc i) inside = absurd (omega arith)

pub rising_four : (a b c d : ℕ) → a < b → b < c → c < d → (i : ℕ) → i + 1 < 4 → get_or (a ∷ b ∷ c ∷ d ∷ []) i 0 < get_or (a ∷ b ∷ c ∷ d ∷ []) (i + 1) 0
rising_four a b c d h h' h'' zero inside = h
rising_four a b c d h h' h'' (suc zero) inside = h'
rising_four a b c d h h' h'' (suc (suc zero)) inside = h''
rising_four a b c d h h' h'' (suc (suc (suc i))) inside = absurd (omega arith)

pub next_row : (columns top bottom : ℕ) → top < bottom → top * columns + columns ≤ bottom * columns
next_row columns top bottom h = omega (arith, mul-le-mul_right columns h)
