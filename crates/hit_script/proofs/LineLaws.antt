-- How lines follow from their bytes.
use Rattle.std.proofs.Common.{◌≡◌, ℕ, ◌<◌, Bool, true, false, eqb, ◌||◌, List, [], ◌∷◌, ◌++◌, length, refl, inl, inr, arith}
use Rattle.std.proofs.lemmas.Bool.{cases_Bool, both_ways}
use Rattle.std.proofs.Math.Bool.{or-true}
use Rattle.hit_script.specs.Lines.{onto_first, lines, has_newline, whole_lines, unfinished}

-- neither of two tests holds
pub neither : (a b : Bool) → (a || b) ≡ false → (a ≡ false) × (b ≡ false)
neither true b e = absurd (both_ways true e refl)
neither false b e = (refl, e)

-- A line without a newline in it, its newline, and more.

pub lines_next : (line rest : List ℕ) → has_newline line ≡ false → lines (line ++ 10 ∷ rest) ≡ line ∷ lines rest
unfolding lines has_newline
lines_next [] rest none = refl
lines_next (b ∷ bs) rest none =
    let parts = neither (eqb b 10) (has_newline bs) none in
    rw (parts.0, lines_next bs rest parts.1) refl

pub lines_last : (line : List ℕ) → has_newline line ≡ false → 0 < length line → lines line ≡ line ∷ []
unfolding lines has_newline
lines_last [] none some = absurd (omega arith)
lines_last (b ∷ []) none some =
    let parts = neither (eqb b 10) false none in
    rw parts.0 refl
lines_last (b ∷ c ∷ cs) none some =
    let parts = neither (eqb b 10) (has_newline (c ∷ cs)) none in
    rw (parts.0, lines_last (c ∷ cs) parts.1 (omega arith)) refl

pub newline_within : (line rest : List ℕ) → has_newline (line ++ 10 ∷ rest) ≡ true
unfolding has_newline
newline_within [] rest = refl
newline_within (b ∷ bs) rest = rw (newline_within bs rest) (or-true (eqb b 10))

pub whole_lines_next : (line rest : List ℕ) → has_newline line ≡ false → whole_lines (line ++ 10 ∷ rest) ≡ line ++ 10 ∷ whole_lines rest
unfolding whole_lines has_newline
whole_lines_next [] rest none = refl
whole_lines_next (b ∷ bs) rest none =
    let parts = neither (eqb b 10) (has_newline bs) none in
    rw (newline_within bs rest, or-true (eqb b 10), whole_lines_next bs rest parts.1) refl

pub whole_lines_none : (line : List ℕ) → has_newline line ≡ false → whole_lines line ≡ []
unfolding whole_lines
whole_lines_none [] none = refl
whole_lines_none (b ∷ bs) none = rw none refl

pub unfinished_next : (line rest : List ℕ) → has_newline line ≡ false → unfinished (line ++ 10 ∷ rest) ≡ unfinished rest
unfolding unfinished has_newline
unfinished_next [] rest none = refl
unfinished_next (b ∷ bs) rest none =
    let parts = neither (eqb b 10) (has_newline bs) none in
    rw (newline_within bs rest, or-true (eqb b 10), unfinished_next bs rest parts.1) refl

pub unfinished_none : (line : List ℕ) → has_newline line ≡ false → unfinished line ≡ line
unfolding unfinished
unfinished_none [] none = refl
unfinished_none (b ∷ bs) none = rw none refl

pub no_newline : has_newline [] ≡ false
unfolding has_newline
no_newline = refl

pub nothing_whole : whole_lines [] ≡ []
unfolding whole_lines
nothing_whole = refl

pub nothing_unfinished : unfinished [] ≡ []
unfolding unfinished
nothing_unfinished = refl

pub no_lines : lines [] ≡ []
unfolding lines
no_lines = refl

pub newline_not_unfinished : (bytes : List ℕ) → has_newline (unfinished bytes) ≡ false
unfolding unfinished
newline_not_unfinished [] = no_newline
newline_not_unfinished (b ∷ bs) =
    elim (cases_Bool (has_newline (b ∷ bs))) [
      | inl some ↦ rw some (newline_not_unfinished bs)
      | inr none ↦ rw (none, none) refl
    ]

-- Whole lines and the line that is only begun.

pub whole_and_unfinished : (bytes : List ℕ) → whole_lines bytes ++ unfinished bytes ≡ bytes
unfolding whole_lines unfinished
whole_and_unfinished [] = refl
whole_and_unfinished (b ∷ bs) =
    elim (cases_Bool (has_newline (b ∷ bs))) [
      | inl some ↦ rw (some, whole_and_unfinished bs) refl
      | inr none ↦ rw none refl
    ]

-- a newline stays in what goes on
pub newline_kept : (bytes more : List ℕ) → has_newline bytes ≡ true → has_newline (bytes ++ more) ≡ true
unfolding has_newline
newline_kept [] more some = absurd (both_ways false refl some)
newline_kept (b ∷ bs) more some =
    elim (cases_Bool (eqb b 10)) [
      | inl here ↦ rw here refl
      | inr other ↦ let later : has_newline bs ≡ true = rw other at some in rw (other, newline_kept bs more later) refl
    ]

pub whole_lines_more : (bytes more : List ℕ) → whole_lines (bytes ++ more) ≡ whole_lines bytes ++ whole_lines (unfinished bytes ++ more)
unfolding whole_lines unfinished
whole_lines_more [] more = refl
whole_lines_more (b ∷ bs) more =
    elim (cases_Bool (has_newline (b ∷ bs))) [
      | inl some ↦ rw (some, newline_kept (b ∷ bs) more some, whole_lines_more bs more) refl
      | inr none ↦ rw none refl
    ]

pub unfinished_more : (bytes more : List ℕ) → unfinished (bytes ++ more) ≡ unfinished (unfinished bytes ++ more)
unfolding unfinished
unfinished_more [] more = refl
unfinished_more (b ∷ bs) more =
    elim (cases_Bool (has_newline (b ∷ bs))) [
      | inl some ↦ rw (some, newline_kept (b ∷ bs) more some, unfinished_more bs more) refl
      | inr none ↦ rw none refl
    ]

-- what has a newline has a first line
first_whole_line : (bytes : List ℕ) → has_newline bytes ≡ true → (line : List ℕ) × (others : List (List ℕ)) × (lines (whole_lines bytes) ≡ line ∷ others)
unfolding lines has_newline whole_lines
first_whole_line [] some = absurd (both_ways false refl some)
first_whole_line (b ∷ bs) some =
    elim (cases_Bool (eqb b 10)) [
      | inl here ↦ ([], lines (whole_lines bs), rw (some, here) refl)
      | inr other ↦
          let later : has_newline bs ≡ true = rw other at some in
          let first = first_whole_line bs later in
          (b ∷ first.0, first.1, rw (some, other, first.2) refl)
    ]

pub lines_behind_whole : (bytes rest : List ℕ) → lines (whole_lines bytes ++ rest) ≡ lines (whole_lines bytes) ++ lines rest
unfolding lines has_newline whole_lines
lines_behind_whole [] rest = refl
lines_behind_whole (b ∷ bs) rest =
    elim (cases_Bool (has_newline (b ∷ bs))) [
      | inl some ↦ elim (cases_Bool (eqb b 10)) [
        | inl here ↦ rw (some, here, lines_behind_whole bs rest) refl
        | inr other ↦
            let later : has_newline bs ≡ true = rw other at some in
            let first = first_whole_line bs later in
            rw (some, other, lines_behind_whole bs rest, first.2) refl
      ]
      | inr none ↦ rw none refl
    ]
