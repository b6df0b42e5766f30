-- The new grid is over the points of the viewport.
use Rattle.std.proofs.Common.{◌≡◌, to_z, of_z, w64, arith, ◌∙◌}
use Rattle.std.proofs.lemmas.Int.{ints}
use Rattle.tree_edits.specs.Cells.{region_of}
use Rattle.tree_edits.proofs.ItemGridLemmas.{ready-made}
use Rattle.tree_edits.proofs.item_grid.ItemGrid.make_room.Goals as goal

pub returns-in_ok-grid-clause-ready : goal.returns-in_ok-grid-clause-ready
returns-in_ok-grid-clause-ready c =
    let viewport = c.args.viewport.now in
    let width : to_z w64 (of_z w64 viewport.w) ≡ viewport.w = omega (arith, ints, c.requires.viewport.width) in
    let height : to_z w64 (of_z w64 viewport.h) ≡ viewport.h = omega (arith, ints, c.requires.viewport.height) in
    ready-made c.args.changes.now (region_of viewport) c.args.resizes c.lengthen.new.self.grid c.in_ok-grid.grid c.if-resizes.true (record {
      region_is = c.in_ok-grid.ensures.region ∙ cc;
      stands = c.in_ok-grid.ensures.items;
      no_other = c.in_ok-grid.ensures.no_other;
    })
