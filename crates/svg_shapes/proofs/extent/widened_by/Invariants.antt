use Rattle.std.proofs.Common.{◌≡◌, drop, fold}
use Rattle.std.specs.List.{flat_map}
use Rattle.poly_shapes.specs.Extent.{widened}
use Rattle.svg_shapes.specs.Shapes.{corners}
use Rattle.svg_shapes.proofs.extent.widened_by.Given as goal

abbrev pub invariant-loop-fine_box : goal.invariant-loop-fine_box
invariant-loop-fine_box l =
    fold widened l.bounds (flat_map corners (drop l.fine_box-index l.boxes))
    ≡ fold widened l.fn.first (flat_map corners l.fn.boxes)
