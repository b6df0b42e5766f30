-- Pointer Events, "Pointer capture": the events of a pointer that an element holds go to that element,
-- wherever the pointer is, until it is released. That any element may hold, and how it ends, is a rule of
-- this project's own.
use Rattle.std.specs.Prelude.{ℕ, Bool, false, Option, Some, None, List, if◌then◌else◌}
use Rattle.mouse_events.specs.Chain.{target, same_target}

-- the holder holds on while it has a chain, which leads to it
abbrev pub holds_on : Option ℕ → List ℕ → Bool
holds_on None holding = false
holds_on (Some id) holding = same_target (Some id) (target holding)

-- the chain of a turn: the holder's, while it holds on, and else that of the element under the pointer
abbrev pub chain_of_turn : (holder : Option ℕ) (under holding : List ℕ) → List ℕ
chain_of_turn holder under holding = if holds_on holder holding then holding else under

abbrev pub holder_after : (holder : Option ℕ) (holding : List ℕ) → Option ℕ
holder_after holder holding = if holds_on holder holding then holder else None
