-- The chain of an element: its ancestors and the element itself, root first. UI Events has the pointer enter and leave along it.
use Rattle.std.specs.Prelude.{ℕ, List, [], ◌∷◌, map, reverse}
use Rattle.std.specs.Option.{option_map_or}
use Rattle.box_tree.specs.Forest.{Label, Placed}
use Rattle.box_tree.specs.Contents.{Contents, placed_of}

-- the ids of a node and of its ancestors, from the node on up
abbrev pub ids_upwards : Placed → List ℕ
ids_upwards p = map (λ (n : Label). n.id) (p.label ∷ p.above)

-- the chain of an id, root first; empty where the id isn't in the page
abbrev pub chain_of : Contents → ℕ → List ℕ
chain_of page id = option_map_or (λ p. reverse (ids_upwards p)) (placed_of page id) []
