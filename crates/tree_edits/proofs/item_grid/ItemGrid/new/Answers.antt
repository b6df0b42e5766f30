-- No item stands anywhere, and none has bounds.
use Rattle.std.proofs.Common.{List, sym, subst}
use Rattle.fractions.specs.declared.rect.Rect.{Rect}
use Rattle.tree_edits.specs.Cells.{IsGridBy}
use Rattle.tree_edits.proofs.ItemGridLemmas.{grid-empty}
use Rattle.tree_edits.proofs.item_grid.ItemGrid.new.Goals as goal

pub invariant_of-result : goal.invariant_of-result
invariant_of-result c = subst (λ (bounds : List Rect). IsGridBy c.in_ok-grid.grid bounds) (sym c.new-2.ensures.items) (grid-empty c.in_ok-grid.grid c.in_ok-grid.ensures.empty)
