-- The items of the changes stand by their new bounds, and no other has bounds.
use Rattle.std.proofs.Common.{◌≡◌, ℕ, sym, subst}
use Rattle.affine.specs.Hull.{no_rect}
use Rattle.spatial_index.specs.Contents.{AreOfOthers}
use Rattle.tree_edits.specs.Cells.{rect_under}
use Rattle.tree_edits.specs.ItemGrid.{ItemGridState}
use Rattle.tree_edits.proofs.PlaceLemmas.{grid-rebuilt}
use Rattle.tree_edits.proofs.item_grid.ItemGrid.replace.Goals as goal

pub invariant_of-self : goal.invariant_of-self
invariant_of-self c =
    let alone = subst (λ (kept : ItemGridState). (number : ℕ) → AreOfOthers number c.args.changes.now → rect_under kept.bounds number ≡ no_rect) (sym c.self.view_is) c.requires.alone in
    grid-rebuilt c.args.fresh c.self.inside.bounds.items c.put_bounds.new.bounds.items c.args.changes.now c.requires.distinct c.put_bounds.ensures.bounds c.requires.made.stands c.requires.made.no_other alone c.requires.inside
