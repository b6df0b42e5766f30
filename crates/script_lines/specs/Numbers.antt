-- Numbers, arrays and objects as the rows of a script ask for them (own). Lengths are in units of 1/64 px.
use Rattle.std.specs.Prelude.{ℕ, ◌&&◌, ◌==◌, if◌then◌else◌, ℤ, pos, negsuc, int_le, unsigned_abs, Bool, false, Option, Some, None, option_map, option_and_then}
use Rattle.std.specs.Option.{option_map_or}
use Rattle.serde_json.specs.Data.{Data}
use Rattle.serde_json.specs.Events.{items_len, members_len}
use Rattle.serde_json.specs.Find.{as_number, as_i64, as_array, as_object}

-- One reading after another: there is none where one of them finds nothing.
infixl 10 ◌>>=◌
abbrev pub ◌>>=◌ : {A B : Type 0} → Option A → (A → Option B) → Option B
found >>= next = option_and_then next found

-- a whole number, which is a JSON number that `as_i64` reads, within two bounds
unfoldable pub number_within : ℤ → ℤ → Data → Option ℤ
number_within low high d = do
  n ← as_number d >>= as_i64
  if int_le low n && int_le n high then Some n else None

-- a whole number from -2^26 to 2^26
abbrev pub coordinate : Data → Option ℤ
coordinate = number_within (negsuc 67108863) (pos 67108864)

-- a whole number from 0 to 2^26
abbrev pub side : Data → Option ℤ
side = number_within (pos 0) (pos 67108864)

-- a whole number from 0 to the bound
abbrev pub number_to : ℕ → Data → Option ℕ
number_to high d = option_map unsigned_abs (number_within (pos 0) (pos high) d)

-- the value is an array of so many items
abbrev pub is_array_of : ℕ → Data → Bool
is_array_of n d = option_map_or (λ items. items_len items == n) (as_array d) false

-- the value is an object of so many keys, each of which stands in it once
abbrev pub is_object_of : ℕ → Data → Bool
is_object_of n d = option_map_or (λ members. members_len members == n) (as_object d) false
