-- Each number stands by the bounds of its item.
use Rattle.std.proofs.Common.{sym, subst}
use Rattle.spatial_index.specs.Contents.{GridState}
use Rattle.tree_edits.specs.Cells.{IsGridOf}
use Rattle.tree_edits.specs.EngineState.{EngineState}
use Rattle.tree_edits.proofs.PlaceLemmas.{grid-of}
use Rattle.tree_edits.proofs.engine.Engine.grid.Goals as goal

pub returns : goal.returns
returns c =
    let kept = c.self.inside.kept.item_grid in
    let page = c.self.inside.page in
    subst (λ (grid : GridState). IsGridOf grid c.args.self.now.contents c.args.self.now.items) (sym c.grid.ensures)
    (subst (λ (e : EngineState). IsGridOf kept.grid e.contents e.items) c.self.view_is
    (grid-of kept.grid kept.bounds page.contents page.items c.soundness.ensures c.self.invariant.grid.region c.self.invariant.grid.bounds))
