use Rattle.std.proofs.Common.{◌≡◌, ◌*◌, ◌++◌, drop, option_map, All}
use Rattle.serde_json.specs.View.{items_view}
use Rattle.poly_shapes.specs.Segments.{IsPlaced}
use Rattle.script_lines.specs.Shapes.{each_point}
use Rattle.script_lines.proofs.paths.each_point_from.Given as goal

-- the points so far and those of the items that are left are those of all items
abbrev pub invariant-loop-k : goal.invariant-loop-k
invariant-loop-k l = record {
  told : option_map (λ more. l.points.items ++ more) (each_point (items_view (drop (2 * l.k) l.items))) ≡ each_point (items_view l.items);
  in_range : All IsPlaced l.points.items;
}
