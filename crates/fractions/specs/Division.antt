use Rattle.std.specs.Prelude.{ℤ, pos, ◌+ℤ◌, ◌-ℤ◌, ◌*ℤ◌, ◌<ℤ◌, ◌≤ℤ◌}

-- k is n / d rounded down: k ≤ n / d < k + 1, multiplied by d, which turns both around where d is negative
pub record IsFloor (n d k : ℤ) : Type 0 where
  pub at_most : pos 0 <ℤ d → (k *ℤ d) ≤ℤ n
  pub next_above : pos 0 <ℤ d → n <ℤ ((k +ℤ pos 1) *ℤ d)
  pub at_most_turned : d <ℤ pos 0 → n ≤ℤ (k *ℤ d)
  pub next_above_turned : d <ℤ pos 0 → ((k +ℤ pos 1) *ℤ d) <ℤ n

-- k is n / d rounded up: k - 1 < n / d ≤ k, multiplied by d, which turns both around where d is negative
pub record IsCeiling (n d k : ℤ) : Type 0 where
  pub at_least : pos 0 <ℤ d → n ≤ℤ (k *ℤ d)
  pub previous_below : pos 0 <ℤ d → ((k -ℤ pos 1) *ℤ d) <ℤ n
  pub at_least_turned : d <ℤ pos 0 → (k *ℤ d) ≤ℤ n
  pub previous_below_turned : d <ℤ pos 0 → n <ℤ ((k -ℤ pos 1) *ℤ d)
