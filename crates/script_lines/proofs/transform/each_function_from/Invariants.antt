use Rattle.std.proofs.Common.{◌≡◌, ◌++◌, drop, vec_len, option_map, All}
use Rattle.serde_json.specs.View.{items_view}
use Rattle.computed_style.specs.Ranges.{IsFunctionInRange}
use Rattle.script_lines.specs.Transform.{each_function}
use Rattle.script_lines.proofs.transform.each_function_from.Given as goal

-- the functions so far and those of the items that are left are those of all items
abbrev pub invariant-loop-item : goal.invariant-loop-item
invariant-loop-item l = record {
  told : option_map (λ more. l.functions.items ++ more) (each_function (items_view (drop l.item-index l.items))) ≡ each_function (items_view l.items);
  in_range : All IsFunctionInRange l.functions.items;
  count : vec_len l.functions ≡ l.item-index;
}
