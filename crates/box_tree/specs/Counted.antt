-- Kept nodes with their number, the numbers of their boxes and vertices, and the room for them.
use Rattle.std.specs.Prelude.{◌≡◌, ℕ, ◌<◌, ◌≤◌, length, Option}
use Rattle.box_tree.specs.Contents.{Contents}
use Rattle.box_tree.specs.Forest.{node_count}
use Rattle.box_tree.specs.declared.sums.Sums.{Sums}
use Rattle.box_tree.specs.Kept.{node_with, IsKept}
use Rattle.box_tree.specs.Nodes.{NodesState}
use Rattle.box_tree.specs.Totals.{sums_in}

-- the nodes are those of the page, so many boxes and vertices are there, and each id that was given has a place
pub record IsCounted (nodes : NodesState) (first : Option ℕ) (sums : Sums) (page : Contents) : Type 0 where
  pub kept : IsKept (node_with nodes.nodes) first page
  pub count : length nodes.nodes ≡ node_count page.tree
  pub sums_are : sums ≡ sums_in page.tree
  pub fits : length nodes.nodes ≤ nodes.room
  pub placed : (id : ℕ) → 0 < id → id < page.next → id < nodes.ids
