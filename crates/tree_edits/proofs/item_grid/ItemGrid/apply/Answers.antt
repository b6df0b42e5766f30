-- Each item of the changes stands by its new bounds, and the others stand as they did.
use Rattle.std.proofs.Common.{sym, subst}
use Rattle.std.specs.Prelude.{All}
use Rattle.spatial_index.specs.Cells.{IsEmptyOrInside}
use Rattle.spatial_index.specs.declared.change.Change.{Change}
use Rattle.tree_edits.specs.ItemGrid.{ItemGridState}
use Rattle.tree_edits.proofs.PlaceLemmas.{grid-changed}
use Rattle.tree_edits.proofs.item_grid.ItemGrid.apply.Goals as goal

pub invariant_of-self : goal.invariant_of-self
invariant_of-self g c =
    let inside = subst (λ (kept : ItemGridState). All (λ (change : Change). IsEmptyOrInside kept.grid.region change.new) c.args.changes.now) (sym c.self.view_is) c.requires.inside in
    grid-changed c.self.inside.grid c.apply.new.self c.self.inside.bounds.items c.put_bounds.new.bounds.items c.args.changes.now c.self.invariant c.requires.distinct c.apply.ensures.region c.put_bounds.ensures.bounds
    c.apply.ensures.moved c.apply.ensures.others inside
