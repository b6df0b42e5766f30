use Rattle.std.specs.Prelude.{ℕ, ◌≤◌, length, IsSome}
use Rattle.paint_order.specs.Lists.{Lists, list_under}
use Rattle.paint_order.specs.Places.{PlaceTables, ArePlaced}

-- a forest: its lists under their numbers, the number of its root list, and how many items it has room for
pub record State : Type 0 where
  pub lists : Lists
  pub root : ℕ
  pub item_room : ℕ

-- how many list numbers it has room for
abbrev pub list_room : State → ℕ
list_room forest = length forest.lists

-- The places that are kept are those of the lists, with one at least for each number below the list room; and the
-- root list stands.
pub record IsKept (lists : Lists) (places : PlaceTables) (root : ℕ) : Type 0 where
  pub room : length lists ≤ length places.lists
  pub placed : ArePlaced lists places
  pub root_stands : IsSome (list_under lists root)
