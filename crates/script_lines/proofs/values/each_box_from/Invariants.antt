use Rattle.std.proofs.Common.{◌≡◌, ◌++◌, drop, option_map, All}
use Rattle.serde_json.specs.View.{items_view}
use Rattle.box_tree.specs.Contents.{IsBoxInRange}
use Rattle.script_lines.specs.Command.{each_box}
use Rattle.script_lines.proofs.values.each_box_from.Given as goal

-- the boxes so far and those of the items that are left are those of all items
abbrev pub invariant-loop-item : goal.invariant-loop-item
invariant-loop-item l = record {
  told : option_map (λ more. l.boxes.items ++ more) (each_box (items_view (drop l.item-index l.items))) ≡ each_box (items_view l.items);
  in_range : All IsBoxInRange l.boxes.items;
}
