use Rattle.std.specs.Prelude.{ℕ, ◌≤◌, ℤ, Option, List}

-- what a pointer keeps: the spot that it was last moved to, and the chain of the element under it
pub record State : Type 0 where
  pub spot : Option (ℤ × ℤ)
  pub chain : List ℕ

-- room for each chain of at most 256 members, and for the events of each turn between two of them
pub record HasRoom (members chain_room event_room : ℕ) : Type 0 where
  pub short : members ≤ 256
  pub chain : 256 ≤ chain_room
  pub events : 515 ≤ event_room
