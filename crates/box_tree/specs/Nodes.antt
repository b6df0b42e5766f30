-- The nodes of a page as contracts see them, and what an exchange makes of them.
use Rattle.std.specs.Prelude.{◌≡◌, ℕ, List, length, Option, if◌then◌else◌, ◌==◌}
use Rattle.std.specs.Option.{option_map}
use Rattle.box_tree.specs.declared.node.Node.{Node}
use Rattle.box_tree.specs.Kept.{node_with}

-- the nodes, each id at most once and in no order; for how many there is room; and the ids below which each has a place
pub record NodesState : Type 0 where
  pub nodes : List Node
  pub room : ℕ
  pub ids : ℕ

-- as much room as before, and as many ids
pub record HasSameRoom (old new : NodesState) : Type 0 where
  pub room : new.room ≡ old.room
  pub ids : new.ids ≡ old.ids

-- what is looked up of an id, with the node of one id changed, where it is there
abbrev pub changed_at : ℕ → (Node → Node) → ℕ → Option Node → Option Node
changed_at id change k o = if id == k then option_map change o else o

-- one node is changed, where it is there
pub record ChangesAt (old new : NodesState) (id : ℕ) (change : Node → Node) : Type 0 where
  pub looked_up : (k : ℕ) → node_with new.nodes k ≡ changed_at id change k (node_with old.nodes k)
  pub count : length new.nodes ≡ length old.nodes
  pub same_room : HasSameRoom old new
