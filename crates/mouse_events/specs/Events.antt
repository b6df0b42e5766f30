-- UI Events, "Mouse Event Order": when a pointer moves from one element to another, mouseout goes to the
-- first; mouseleave to it and its ancestors that the second has not, deepest first; mouseover to the
-- second; mouseenter to it and its ancestors that the first has not, outermost first; then mousemove.
use Rattle.std.specs.Prelude.{ℕ, Bool, Option, Some, None, List, [], ◌∷◌, ◌++◌, map, reverse, if◌then◌else◌}
use Rattle.mouse_events.specs.declared.event.EventKind.{EventKind}
use Rattle.mouse_events.specs.declared.event.EventKind.TheVariants.{Out, Leave, Over, Enter, Move}
use Rattle.mouse_events.specs.declared.event.Event.{Event}
use Rattle.mouse_events.specs.Chain.{target, same_target, living, living_target, without}

abbrev pub event : EventKind → Option ℕ → ℕ → Event
event kind related x = record { kind = kind; target = x; related = related }

-- an event on an element, and none where there is no element
abbrev pub on : EventKind → Option ℕ → Option ℕ → List Event
on kind None related = []
on kind (Some x) related = event kind related x ∷ []

-- an event on each of the elements, in their order
abbrev pub on_each : EventKind → List ℕ → Option ℕ → List Event
on_each kind elements related = map (event kind related) elements

-- the events of a new target, but for the move; elements that are gone get none and are named by none
unfoldable pub change : (kept : List ℕ) (alive : List Bool) (new : List ℕ) → List Event
change kept alive new =
    on Out (living_target kept alive) (target new)
    ++ (on_each Leave (reverse (without new (living kept alive))) (target new)
    ++ (on Over (target new) (living_target kept alive)
    ++ on_each Enter (without kept new) (living_target kept alive)))

-- the move to a target, where the pointer moved
abbrev pub move_to : Bool → Option ℕ → List Event
move_to moved element = if moved then on Move element None else []

-- the events of a turn from the kept chain, with a flag for each member that says whether it is still in
-- the page, to the new chain: where the target stays the same, only a move
abbrev pub events_between : (kept : List ℕ) (alive : List Bool) (new : List ℕ) (moved : Bool) → List Event
events_between kept alive new moved =
    (if same_target (target kept) (target new) then [] else change kept alive new) ++ move_to moved (target new)
