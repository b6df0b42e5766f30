-- The lines of a script.
use Rattle.std.specs.Prelude.{◌≡◌, ℕ, List, [], ◌∷◌, Bool, false, ◌||◌, ◌==◌, if◌then◌else◌}
use Rattle.hit_script.specs.Cutting.{Counted, counted}

-- a byte put before the first of some lines, where there is none as a line of its own
abbrev pub onto_first : ℕ → List (List ℕ) → List (List ℕ)
onto_first byte [] = (byte ∷ []) ∷ []
onto_first byte (line ∷ lines) = (byte ∷ line) ∷ lines

-- The pieces between newline bytes. The last one counts where it isn't empty.
unfoldable pub lines : List ℕ → List (List ℕ)
lines [] = []
lines (byte ∷ bytes) = if byte == 10 then [] ∷ lines bytes else onto_first byte (lines bytes)

unfoldable pub has_newline : List ℕ → Bool
has_newline [] = false
has_newline (byte ∷ bytes) = (byte == 10) || has_newline bytes

-- The bytes up to and with the last newline, and none where there is no newline.
unfoldable pub whole_lines : List ℕ → List ℕ
whole_lines [] = []
whole_lines (byte ∷ bytes) = if has_newline (byte ∷ bytes) then byte ∷ whole_lines bytes else []

-- The bytes behind the last newline, and all of them where there is no newline.
unfoldable pub unfinished : List ℕ → List ℕ
unfinished [] = []
unfinished (byte ∷ bytes) = if has_newline (byte ∷ bytes) then unfinished bytes else byte ∷ bytes

-- a cutter has counted these bytes, in which there is no newline
pub record HasBegun (cutter : Counted) (begun : List ℕ) : Type 0 where
  pub counts : cutter ≡ counted begun
  pub open_line : has_newline begun ≡ false
