-- One change more.
use Rattle.std.proofs.Common.{ℕ, ◌<◌, get_or, sym, subst, ◌∙◌}
use Rattle.std.proofs.lemmas.List.{length-set}
use Rattle.affine.specs.Hull.{no_rect}
use Rattle.spatial_index.specs.declared.change.Change.{Change}
use Rattle.tree_edits.proofs.PlaceLemmas.{placed-step}
use Rattle.tree_edits.proofs.item_grid.put_bounds.Goals as goal

pub loop-change-preserved : goal.loop-change-preserved
loop-change-preserved c =
    let none : Change = record { item = 0; old = no_rect; new = no_rect } in
    let k = c.loop-change.change-index in
    let change = get_or c.args.changes.now k none in
    let within = c.loop-change-test.true in
    let slot = subst (λ (n : ℕ). change.item < n) (sym c.loop-change.invariant.room) (c.requires k none within) in
    record {
      bounds = placed-step c.loop-change.bounds.items c.args.bounds.now.items c.args.changes.now k none within slot c.loop-change.invariant.bounds;
      room = length-set c.loop-change.bounds.items change.item change.new ∙ c.loop-change.invariant.room;
    }
