-- The outline so far with the items that are left is the outline of all items.
use Rattle.std.proofs.Common.{◌≡◌, drop}
use Rattle.serde_json.specs.View.{items_view}
use Rattle.poly_shapes.specs.Outline.{IsMeasured}
use Rattle.script_lines.specs.Shapes.{no_outline, each_subpath}
use Rattle.script_lines.proofs.paths.each_subpath_from.Given as goal

abbrev pub invariant-loop-item : goal.invariant-loop-item
invariant-loop-item l = record {
  told : each_subpath l.drawing (items_view (drop l.item-index l.items)) ≡ each_subpath no_outline (items_view l.items);
  measured : IsMeasured l.drawing;
}
