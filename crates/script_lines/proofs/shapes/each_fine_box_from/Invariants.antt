use Rattle.std.proofs.Common.{◌≡◌, ◌++◌, drop, option_map, All}
use Rattle.serde_json.specs.View.{items_view}
use Rattle.svg_shapes.specs.Measures.{IsBoxMeasured}
use Rattle.script_lines.specs.Shapes.{each_fine_box}
use Rattle.script_lines.proofs.shapes.each_fine_box_from.Given as goal

-- the boxes so far and those of the items that are left are those of all items
abbrev pub invariant-loop-item : goal.invariant-loop-item
invariant-loop-item l = record {
  told : option_map (λ more. l.boxes.items ++ more) (each_fine_box (items_view (drop l.item-index l.items))) ≡ each_fine_box (items_view l.items);
  in_range : All IsBoxMeasured l.boxes.items;
}
