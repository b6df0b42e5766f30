-- For how many ids lists of children have room.
use Rattle.std.specs.Prelude.{◌≡◌, ℕ, ◌+◌, ◌*◌, ◌^◌, ◌<◌, ◌≤◌, [], Option, None, Some, Vec, vec_len, vec_capacity}
use Rattle.std.specs.declared.alloc.Global.{Global}

-- there is room for the least power of two that is not below the length: for the double of each power of two below it
pub record HasRoom (len room : ℕ) : Type 0 where
  pub doubled : (k : ℕ) → 2 ^ k < len → 2 * 2 ^ k ≤ room

-- a number above a power of two and below the next one
pub record IsBetweenPowers (len : ℕ) : Type 0 where
  pub exponent : ℕ
  pub above : 2 ^ exponent < len
  pub below : len < 2 * 2 ^ exponent

-- no ids, with room for twice as many as there are, and for one
pub record HasDoubleRoom (len : ℕ) (spare : Vec ℕ Global) : Type 0 where
  pub none : spare.items ≡ []
  pub len_is : vec_len spare ≡ 0
  pub double : len + len ≤ vec_capacity spare
  pub one_more : len < vec_capacity spare

-- what a list of so many ids needs beside its own room to take one more
abbrev pub IsSpareFor : ℕ → Option (Vec ℕ Global) → Type 0
IsSpareFor len None = IsBetweenPowers len
IsSpareFor len (Some spare) = HasDoubleRoom len spare
