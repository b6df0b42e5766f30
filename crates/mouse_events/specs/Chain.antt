-- A chain is an element with its ancestors, root first. UI Events has a pointer leave and enter along it.
use Rattle.std.specs.Prelude.{ℕ, ◌-◌, ◌==◌, Bool, true, false, not, Option, Some, None, List, [], ◌∷◌, length, slice_get}
use Rattle.std.specs.List.{filter, list_any}

-- the element that the chain leads to: its last member, and none of an empty chain
abbrev pub target : List ℕ → Option ℕ
target chain = slice_get chain (length chain - 1)

abbrev pub is_member : ℕ → List ℕ → Bool
is_member x chain = list_any (λ y. y == x) chain

-- two chains lead to the same element, or both to none
abbrev pub same_target : Option ℕ → Option ℕ → Bool
same_target None None = true
same_target None (Some b) = false
same_target (Some a) None = false
same_target (Some a) (Some b) = a == b

-- the members that are still in the page, by a flag for each
abbrev pub living : List ℕ → List Bool → List ℕ
living [] alive = []
living (x ∷ xs) [] = []
living (x ∷ xs) (true ∷ alive) = x ∷ living xs alive
living (x ∷ xs) (false ∷ alive) = living xs alive

-- the target, where it is still in the page
abbrev pub if_living : Option Bool → Option ℕ → Option ℕ
if_living None element = None
if_living (Some true) element = element
if_living (Some false) element = None

abbrev pub living_target : List ℕ → List Bool → Option ℕ
living_target chain alive = if_living (slice_get alive (length alive - 1)) (target chain)

-- the members of one chain that aren't in another
abbrev pub without : List ℕ → List ℕ → List ℕ
without other chain = filter (λ x. not (is_member x other)) chain
