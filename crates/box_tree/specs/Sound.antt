-- When the numbers of items are kept as they have to be.
use Rattle.std.specs.Prelude.{◌≡◌, ℕ, ◌+◌, ◌≤◌, length, sum_by, if◌then◌else◌, nat_lt}
use Rattle.box_tree.specs.Numbers.{ItemsState}
use Rattle.box_tree.specs.Planned.{times_in}

-- each number that was ever given is free or stands in one list, once, and there are no more than there may be items
pub record AreSound (s : ItemsState) : Type 0 where
  pub each_once : (k : ℕ) → times_in k s.free + sum_by (λ list. times_in k list) s.lists ≡ (if nat_lt k (length s.given) then 1 else 0)
  pub count : length s.given ≡ length s.free + sum_by (λ list. length list) s.lists
  pub most : length s.given ≤ 327680
