-- The room that a desk is lent for an answer.
use Rattle.std.specs.Prelude.{ℕ, ◌+◌, ◌≤◌, List, length}

-- a place for each item of its page, and for 256 members more
abbrev pub HasRoom : ℕ → List ℕ → Type 0
HasRoom places room = places + 256 ≤ length room
