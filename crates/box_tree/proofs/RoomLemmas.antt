-- For how many ids there is room: with one more, with fewer, and by a power of two.
use Rattle.std.proofs.Common.{◌≡◌, ℕ, zero, suc, ◌+◌, ◌/◌, ◌^◌, ◌<◌, ◌≤◌, pow_mono, inl, inr, arith}
use Rattle.std.specs.Prelude.{max}
use Rattle.std.proofs.lemmas.Bool.{cases_lt}
use Rattle.box_tree.specs.Room.{HasRoom, IsBetweenPowers}

pub room_between : (len room : ℕ) → HasRoom len room → IsBetweenPowers len → HasRoom (len + 1) room
room_between len room has between = record {
  doubled = λ k below. elim (cases_lt (2 ^ k) len) [
    | inl less ↦ has.doubled k less
    | inr least ↦ elim (cases_lt between.exponent k) [
      | inl above ↦ absurd (let more : 2 ^ suc between.exponent ≤ 2 ^ k = pow_mono (omega arith) in omega (arith, more, between.below, below, least))
      | inr within ↦ absurd (let fewer : 2 ^ k ≤ 2 ^ between.exponent = pow_mono within in omega (arith, fewer, between.above, least))
    ]
  ];
}

-- a power of two that is not below is room enough
pub room_power : (len room power exponent : ℕ) → power ≡ 2 ^ exponent → len ≤ power → power ≤ room → HasRoom len room
room_power len room power exponent is least fits = record {
  doubled = λ k below. elim (cases_lt k exponent) [
    | inl less ↦ let more : 2 ^ suc k ≤ 2 ^ exponent = pow_mono less in omega (arith, more, fits, is)
    | inr above ↦ absurd (let more : 2 ^ exponent ≤ 2 ^ k = pow_mono above in omega (arith, more, least, below, is))
  ];
}

-- a number below the least power of two that is not below it is above half of that
pub between_powers : (len power exponent : ℕ) → power ≡ 2 ^ exponent → 0 < len → len < power → power / 2 < max 1 len → IsBetweenPowers len
between_powers len power zero is some below half = absurd (omega arith)
between_powers len power (suc exponent) is some below half = record { exponent = exponent; above = omega (arith, half, some, is); below = omega (arith, below, is) }
