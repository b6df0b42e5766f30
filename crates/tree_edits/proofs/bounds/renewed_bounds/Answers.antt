-- By the entry of the node of the item.
use Rattle.std.proofs.Common.{sym, ap, subst, ◌∙◌}
use Rattle.std.specs.Option.{option_map_or}
use Rattle.affine.specs.Hull.{no_rect}
use Rattle.box_tree.specs.declared.viewport.Viewport.{Viewport}
use Rattle.box_tree.specs.Kept.{label_of}
use Rattle.spatial_index.specs.Cells.{IsEmptyOrInside}
use Rattle.spaces.specs.Table.{new_entry}
use Rattle.spaces.proofs.SpaceLemmas.{numbers-seen}
use Rattle.tree_edits.specs.Bounds.{part_rect, bounds_in}
use Rattle.tree_edits.specs.Cells.{region_of}
use Rattle.tree_edits.proofs.BoundsLemmas.{inside-view_bounds, bounds-nowhere, width-entered, bounds-entered}
use Rattle.tree_edits.proofs.bounds.renewed_bounds.Goals as goal

pub returns-in_default-clause-bounds : goal.returns-in_default-clause-bounds
returns-in_default-clause-bounds g c = sym (bounds-nowhere c.args.page.now.contents c.args.item (new_entry c.args.change.now c.args.item.node) (c.requires.renewed) (sym c.in_default.ensures))

pub node_bounds-requires-clause-node : goal.node_bounds-requires-clause-node
node_bounds-requires-clause-node g c = numbers-seen c.args.page.now.contents c.validity.ensures c.args.item.node c.node-node.result.now c.node-node.ensures.node

pub node_bounds-requires-clause-width : goal.node_bounds-requires-clause-width
node_bounds-requires-clause-width g c =
    width-entered c.args.page.now.contents c.args.item (new_entry c.args.change.now c.args.item.node) (c.requires.renewed) c.values_of-values.result.now c.values_of-values.ensures c.validity.ensures

pub returns-clause-bounds : goal.returns-clause-bounds
returns-clause-bounds g c =
    let page = c.args.page.now.contents in
    let node = c.node-node.result.now in
    let values = c.values_of-values.result.now in
    c.node_bounds.ensures
    ∙ ap (λ (v : Viewport). option_map_or (bounds_in v c.in-Some.space.now) (part_rect (label_of node) values c.args.item.part) no_rect) c.viewport.ensures
    ∙ sym (bounds-entered page c.args.item (new_entry c.args.change.now c.args.item.node) (c.requires.renewed) c.in-Some.space.now values node (sym c.in-Some.ensures) c.values_of-values.ensures c.node-node.ensures.node)

pub returns-clause-inside : goal.returns-clause-inside
returns-clause-inside g c = subst (IsEmptyOrInside (region_of c.args.page.now.contents.viewport)) (sym (returns-clause-bounds g c)) (inside-view_bounds c.args.page.now.contents c.args.item)
