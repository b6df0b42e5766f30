-- What a page sees of the enters and leaves over many turns.
use Rattle.std.specs.Prelude.{◌≡◌, ℕ, Bool, true, false, not, IsTrue, List, [], ◌∷◌, ◌++◌, map, ⊤, ◌==◌, if◌then◌else◌}
use Rattle.mouse_events.specs.declared.event.EventKind.{EventKind}
use Rattle.mouse_events.specs.declared.event.EventKind.TheVariants.{Out, Leave, Over, Enter, Move}
use Rattle.mouse_events.specs.declared.event.Event.{Event}
use Rattle.mouse_events.specs.Chain.{target, is_member}
use Rattle.mouse_events.specs.Events.{events_between}

-- a turn of the pointer: to a chain, by a move or not
pub record Turn : Type 0 where
  pub chain : List ℕ
  pub moved : Bool

-- no element stands in the chain twice
abbrev pub IsDistinct : List ℕ → Type 0
IsDistinct [] = ⊤
IsDistinct (x ∷ xs) = IsTrue (not (is_member x xs)) × IsDistinct xs

-- every member is still in the page
abbrev pub all_alive : List ℕ → List Bool
all_alive chain = map (λ _. true) chain

-- the events of turns one after another, from a kept chain, while no element goes from the page
abbrev pub events_of : List ℕ → List Turn → List Event
events_of kept [] = []
events_of kept (turn ∷ turns) =
    events_between kept (all_alive kept) turn.chain turn.moved ++ events_of turn.chain turns

-- the chain that is kept after the turns
abbrev pub kept_after : List ℕ → List Turn → List ℕ
kept_after kept [] = kept
kept_after kept (turn ∷ turns) = kept_after turn.chain turns

-- the chains have distinct members, and successive chains with the same target are the same chain
abbrev pub AreSettled : List ℕ → List Turn → Type 0
AreSettled kept [] = ⊤
AreSettled kept (turn ∷ turns) =
    IsDistinct turn.chain × (target kept ≡ target turn.chain → kept ≡ turn.chain) × AreSettled turn.chain turns

-- the enters and leaves of one element, in their order: true for an enter
abbrev pub crossing : EventKind → List Bool
crossing Out = []
crossing Leave = false ∷ []
crossing Over = []
crossing Enter = true ∷ []
crossing Move = []

abbrev pub crossings : ℕ → List Event → List Bool
crossings x [] = []
crossings x (e ∷ es) = (if e.target == x then crossing e.kind else []) ++ crossings x es

-- enters and leaves take turns, from an element that the pointer is inside or outside of
abbrev pub TakeTurns : (inside : Bool) → List Bool → Type 0
TakeTurns inside [] = ⊤
TakeTurns inside (enters ∷ rest) = (enters ≡ not inside) × TakeTurns enters rest

-- whether the element is entered and not yet left
abbrev pub is_inside : (inside : Bool) → List Bool → Bool
is_inside inside [] = inside
is_inside inside (enters ∷ rest) = is_inside enters rest

-- For each element enters and leaves take turns, and it is entered and not yet left exactly while it is
-- in the kept chain: over any list of turns from the start
pub record CrossingsAreBalanced (x : ℕ) (turns : List Turn) : Type 0 where
  pub take_turns : TakeTurns false (crossings x (events_of [] turns))
  pub inside : is_inside false (crossings x (events_of [] turns)) ≡ is_member x (kept_after [] turns)
