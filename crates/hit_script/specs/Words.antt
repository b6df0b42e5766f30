-- The words of a command line, and what they ask for.
use Rattle.std.specs.Prelude.{ℕ, ⊤, ◌≤◌, ◌+◌, ◌*◌, ◌-◌, Bool, List, [], ◌∷◌, length, take, drop, codes, Option, Some, None, option_map, option_and_then, ◌&&◌, nat_le, if◌then◌else◌}
use Rattle.std.specs.List.{list_all}
use Rattle.std.specs.Str.{bytes_eq}
use Rattle.hit_script.specs.declared.words.Task.{Task}
use Rattle.hit_script.specs.declared.words.Task.TheVariants.{Script, Load}

-- an ASCII digit
abbrev pub is_digit : ℕ → Bool
is_digit byte = nat_le 48 byte && nat_le byte 57

-- the number that ASCII digits spell behind those of another
abbrev pub spelled_behind : ℕ → List ℕ → ℕ
spelled_behind number [] = number
spelled_behind number (digit ∷ digits) = spelled_behind (number * 10 + (digit - 48)) digits

-- the number that ASCII digits spell
abbrev pub spelled : List ℕ → ℕ
spelled digits = spelled_behind 0 digits

-- one to five ASCII digits
abbrev pub is_short_number : List ℕ → Bool
is_short_number text = nat_le 1 (length text) && (nat_le (length text) 5 && list_all is_digit text)

-- the number of blocks of a load, which is from 1 to 20,000
abbrev pub load_count : List ℕ → Option ℕ
load_count text = if is_short_number text && (nat_le 1 (spelled text) && nat_le (spelled text) 20000) then Some (spelled text) else None

-- the text behind `--load=`, where a word begins with that
abbrev pub behind_load : List ℕ → Option (List ℕ)
behind_load word = if bytes_eq (take 7 word) (codes "--load=") then Some (drop 7 word) else None

-- the load of a number of blocks, where the text spells one
abbrev pub load_by : List ℕ → Option Task
load_by text = option_map Load (load_count text)

-- at most 20,000 blocks
abbrev pub HasFewBlocks : Task → Type 0
HasFewBlocks Script = ⊤
HasFewBlocks (Load count) = count ≤ 20000

-- What the words behind the program's name ask for, where they have one of three forms: no word; `--load` and a number; or
-- `--load=` with the number.
abbrev pub words_ask : List (List ℕ) → Option Task
words_ask [] = Some Script
words_ask (word ∷ []) = option_and_then load_by (behind_load word)
words_ask (word ∷ number ∷ []) = if bytes_eq word (codes "--load") then load_by number else None
words_ask (word ∷ number ∷ another ∷ words) = None
