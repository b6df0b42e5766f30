-- What the two ends of a run have in common: counts of faults, and bytes that are known or not.
use Rattle.std.specs.Prelude.{◌≡◌, ℕ, ◌+◌, ◌-◌, ◌^◌, ◌<◌, ◌≤◌, ◌⊎◌, min, List, ◌++◌, length, take, drop, Option, Some, option_map}

-- A count of faults rose, or stands at the last value that 64 bits hold.
abbrev pub Rose : ℕ → ℕ → Type 0
Rose before after = (before < after) ⊎ (after ≡ 2 ^ 64 - 1)

-- These bytes were read: where the bytes left are known they were the front, and are taken off.
abbrev pub Read : Option (List ℕ) → List ℕ → Option (List ℕ) → Type 0
Read before bytes after = before ≡ option_map (λ rest. bytes ++ rest) after

-- At most so many bytes were read: what is left of a script, where it is known, is the script without its first n bytes.
abbrev pub ReadsAtMost : ℕ → Option (List ℕ) → Option (List ℕ) → Type 0
ReadsAtMost most before after = (script : List ℕ) → before ≡ Some script → (n : ℕ) × (n ≤ most) × (n ≤ length script) × (after ≡ Some (drop n script))

-- A sink has taken a front of these bytes, where it is known what it has taken.
abbrev pub TakesFront : Option (List ℕ) → Option (List ℕ) → List ℕ → Type 0
TakesFront before after bytes = (n : ℕ) × (after ≡ option_map (λ taken. taken ++ take n bytes) before)

-- A sink has taken these bytes.
abbrev pub TakesAll : Option (List ℕ) → Option (List ℕ) → List ℕ → Type 0
TakesAll before after bytes = after ≡ option_map (λ taken. taken ++ bytes) before

-- One more, but for the last value that 64 bits hold.
abbrev pub count_up : ℕ → ℕ
count_up n = min (n + 1) (2 ^ 64 - 1)
