use Rattle.std.proofs.Common.{◌≡◌, ◌++◌, drop, vec_len, option_map, All}
use Rattle.serde_json.specs.View.{items_view}
use Rattle.image_maps.specs.Area.{IsNumber}
use Rattle.script_lines.specs.Areas.{each_number}
use Rattle.script_lines.proofs.areas.each_number_from.Given as goal

-- the numbers so far and those of the items that are left are those of all items
abbrev pub invariant-loop-item : goal.invariant-loop-item
invariant-loop-item l = record {
  told : option_map (λ more. l.numbers.items ++ more) (each_number (items_view (drop l.item-index l.items))) ≡ each_number (items_view l.items);
  in_range : All IsNumber l.numbers.items;
  count : vec_len l.numbers ≡ l.item-index;
}
