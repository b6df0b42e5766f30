-- The bounds after the front of the changes.
use Rattle.std.proofs.Common.{◌≡◌, ℕ, take, length}
use Rattle.tree_edits.specs.Cells.{rect_under}
use Rattle.tree_edits.specs.Changes.{placed_by}
use Rattle.tree_edits.proofs.item_grid.put_bounds.Given as goal

abbrev pub invariant-loop-change : goal.invariant-loop-change
invariant-loop-change l = record {
  bounds : (number : ℕ) → rect_under l.bounds.items number ≡ placed_by (take l.change-index l.changes) number (rect_under l.fn.bounds.items number);
  room : length l.bounds.items ≡ length l.fn.bounds.items;
}
