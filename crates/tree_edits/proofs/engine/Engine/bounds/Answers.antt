-- They are those that are kept.
use Rattle.std.proofs.Common.{List, sym, subst}
use Rattle.fractions.specs.declared.rect.Rect.{Rect}
use Rattle.tree_edits.specs.Cells.{AreBoundsOf}
use Rattle.tree_edits.specs.EngineState.{EngineState}
use Rattle.tree_edits.proofs.engine.Engine.bounds.Goals as goal

pub returns : goal.returns
returns c =
    subst (λ (bounds : List Rect). AreBoundsOf bounds c.args.self.now.contents c.args.self.now.items) (sym c.bounds.ensures)
    (subst (λ (e : EngineState). AreBoundsOf c.self.inside.kept.item_grid.bounds e.contents e.items) c.self.view_is c.self.invariant.grid.bounds)
