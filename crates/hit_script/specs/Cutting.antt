-- How the bytes of a script are cut into lines, of which no more than the first 1,048,576 bytes are kept.
use Rattle.std.specs.Prelude.{◌≡◌, ℕ, ◌+◌, ◌^◌, ◌≤◌, min, List, [], ◌∷◌, ◌++◌, length, take, ◌==◌, nat_le, if◌then◌else◌}
use Rattle.hit_script.specs.declared.cutter.Cut.{Cut}
use Rattle.hit_script.specs.declared.cutter.Cut.TheVariants.{More, Whole, Long}

-- the line that is begun: the first 1,048,576 of its bytes, and how many they are in all
pub record Counted : Type 0 where
  pub front : List ℕ
  pub count : ℕ

-- so many bytes of a line are kept, where so many were counted, and there is room for all that may be kept
pub record IsKept (kept room count : ℕ) : Type 0 where
  pub as_many : kept ≡ min count (2 ^ 20)
  pub has_room : 2 ^ 20 ≤ room

-- these bytes, counted
unfoldable pub counted : List ℕ → Counted
counted bytes = record { front = take (2 ^ 20) bytes; count = length bytes }

-- bytes that are counted behind others
unfoldable pub counted_on : Counted → List ℕ → Counted
counted_on begun bytes = record { front = take (2 ^ 20) (begun.front ++ bytes); count = begun.count + length bytes }

-- what a newline makes of a line: it is whole where it has at most 1,048,576 bytes
abbrev pub cut_by_newline : Counted → Cut
cut_by_newline begun = if nat_le begun.count (2 ^ 20) then Whole else Long

-- what a byte is answered with, and what is counted behind it
abbrev pub cut_by : Counted → ℕ → Cut
cut_by begun byte = if byte == 10 then cut_by_newline begun else More

abbrev pub counted_behind : Counted → ℕ → Counted
counted_behind begun byte = if byte == 10 then begun else counted_on begun (byte ∷ [])

-- bytes that were taken one after another: how many, the answer to the last of them, and what is counted behind it
pub record Cutting : Type 0 where
  pub taken : ℕ
  pub cut : Cut
  pub behind : Counted

abbrev pub with_one_before : Cutting → Cutting
with_one_before later = record later { taken = later.taken + 1 }

-- the bytes of a piece, one after another, up to the first that is answered otherwise than More
unfoldable pub cutting : Counted → List ℕ → Cutting
cutting begun [] = record { taken = 0; cut = More; behind = begun }
cutting begun (byte ∷ bytes) =
    if byte == 10 then record { taken = 1; cut = cut_by begun byte; behind = counted_behind begun byte }
    else with_one_before (cutting (counted_behind begun byte) bytes)
