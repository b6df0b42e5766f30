-- Nodes in slots, and the table that leads from an id to a slot.
use Rattle.std.specs.Prelude.{◌≡◌, ℕ, List, Option, Some, None, slice_index_or}
use Rattle.std.specs.Option.{option_map}
use Rattle.box_tree.specs.declared.node.Node.{Node}

-- the slot that the table leads to from an id
abbrev pub slot_of : List (Option ℕ) → ℕ → Option ℕ
slot_of places id = slice_index_or places id None

-- the node in a slot
abbrev pub node_in_slot : List (Option Node) → ℕ → Option Node
node_in_slot slots slot = slice_index_or slots slot None

-- a slot that an id leads to holds the node of that id, and the id of a node that is held leads to its slot
pub record AreLedTo (places : List (Option ℕ)) (slots : List (Option Node)) : Type 0 where
  pub leads : (id slot : ℕ) → slot_of places id ≡ Some slot → option_map (λ n. n.id) (node_in_slot slots slot) ≡ Some id
  pub back : (slot : ℕ) (n : Node) → node_in_slot slots slot ≡ Some n → slot_of places n.id ≡ Some slot
