-- Lists that are read or written piece by piece.
use Rattle.std.proofs.Common.{◌≡◌, ℕ, ◌+◌, ◌-◌, ◌≤◌, List, [], ◌∷◌, length, ◌++◌, take, drop, slice_set, Option, Some, None, option_map, refl, ap, append_assoc, arith}
use Rattle.std.specs.List.{slice_range}
use Rattle.std.proofs.lemmas.List.{take_at, take_rest, length-take-le}
use Rattle.std.proofs.Math.Seq.{take-add}
use Rattle.std.proofs.lemmas.List.Folds.{drop_split}

-- What is left at a place is the piece that was copied from there to the front of a buffer, and what is left behind it.
pub copied_front : (xs copy rest : List ℕ) (at n : ℕ) → length copy ≡ n → copy ≡ slice_range xs at (at + n) → drop at xs ≡ take n (copy ++ rest) ++ drop (at + n) xs
copied_front xs copy rest at n size copied =
    rw (take_at copy rest n size, copied) (drop_split xs at (at + n) (omega arith))

-- a sink that took the bytes up to a place, and then some behind it
pub taken_more : (before : Option (List ℕ)) (bytes : List ℕ) (at n : ℕ) → option_map (λ t. t ++ take n (take (length bytes - at) (drop at bytes))) (option_map (λ t. t ++ take at bytes) before) ≡ option_map (λ t. t ++ take (at + n) bytes) before
taken_more None bytes at n = refl
taken_more (Some t) bytes at n = rw (take_rest bytes at, take-add at n bytes) (ap Some (append_assoc t (take at bytes) (take n (drop at bytes))))

-- the front of a buffer that has room
pub front_length : (buffer : List ℕ) (count room n : ℕ) → count ≤ room → room ≤ n → length buffer ≡ n → length (take count buffer) ≡ count
front_length buffer count room n within fits size = length-take-le count buffer (omega arith)

-- what is written at the front of a room is the first of it
pub first_written : (room : List ℕ) (member : ℕ) → 256 ≤ length room → take 1 (slice_set room 0 member) ≡ member ∷ []
first_written [] member long = absurd (omega arith)
first_written (x ∷ room) member long = refl
