use Rattle.std.specs.Prelude.{◌≡◌, ℕ, ◌≤◌, Option, None, List, [], ◌∷◌}

-- What a pointer with buttons keeps from one input to the next: the chain that it was last turned to; for
-- each button nothing while it is up, and while it is down its press chain, the chain that was kept when
-- it went down; and the element that holds the pointer, where there is one.
pub record State : Type 0 where
  pub chain : List ℕ
  pub presses : List (Option (List ℕ))
  pub holder : Option ℕ

-- over no element, with the five buttons up and no holder
abbrev pub start : State
start = record { chain = []; presses = None ∷ None ∷ None ∷ None ∷ None ∷ []; holder = None }

-- what is kept: a chain of at most 256 members and five buttons; and there is room for each such chain, a
-- flag for each of its members, the events of a turn between two of them, and an up and a click
pub record IsKept (members buttons chain_room alive_room event_room told_room : ℕ) : Type 0 where
  pub short : members ≤ 256
  pub five : buttons ≡ 5
  pub chain : 256 ≤ chain_room
  pub alive : 256 ≤ alive_room
  pub events : 515 ≤ event_room
  pub told : 2 ≤ told_room
