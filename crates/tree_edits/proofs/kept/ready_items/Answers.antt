-- The changes are those of the page, whose bounds lie in the viewport, and the numbers of its items are below the limit.
use Rattle.std.proofs.Common.{◌≡◌, refl, sym, subst, arith}
use Rattle.std.specs.Prelude.{All}
use Rattle.box_tree.specs.declared.viewport.Viewport.{Viewport}
use Rattle.spatial_index.specs.Cells.{IsEmptyOrInside}
use Rattle.spatial_index.specs.declared.change.Change.{Change}
use Rattle.tree_edits.specs.Cells.{region_of}
use Rattle.tree_edits.specs.Changes.{behind, changes_of}
use Rattle.tree_edits.proofs.ChangesLemmas.{inside-changes}
use Rattle.tree_edits.proofs.kept.ready_items.Goals as goal

pub make_room-requires-clause-inside : goal.make_room-requires-clause-inside
make_room-requires-clause-inside g c =
    let page = c.args.page.now in
    let reach = c.args.reach.now in
    let gone = behind page.items reach.subtree reach.numbers.items in
    let changes_are : c.as_slice-2.result.now ≡ changes_of c.args.item_grid.now.bounds page.contents page.items reach.subtree gone = rw (c.as_slice-2.ensures.value, c.in_ok-changes.ensures, c.bounds-bounds.ensures, c.gone_numbers-gone.ensures, c.as_slice.ensures.value) refl in
    subst (λ (viewport : Viewport). All (λ (change : Change). IsEmptyOrInside (region_of viewport) change.new) c.as_slice-2.result.now) (sym c.viewport.ensures)
    (subst (All (λ (change : Change). IsEmptyOrInside (region_of page.contents.viewport) change.new)) (sym changes_are)
    (inside-changes page.contents page.items page.items c.args.item_grid.now.bounds reach.subtree gone))

pub returns-clause-long : goal.returns-clause-long
returns-clause-long g c = λ number is. omega (arith, c.number_limit.ensures.below number is, c.in_ok-grid.ensures.long)
