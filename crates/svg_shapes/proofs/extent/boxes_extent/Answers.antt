use Rattle.std.proofs.Common.{Option, IfSome, ◌^◌, subst, sym}
use Rattle.std.specs.List.{flat_map}
use Rattle.poly_shapes.specs.declared.point.Bounds.{Bounds}
use Rattle.poly_shapes.specs.Extent.{AreSidesWithin}
use Rattle.svg_shapes.specs.Shapes.{corners}
use Rattle.svg_shapes.proofs.BoxLemmas.{all-corners-within}
use Rattle.svg_shapes.proofs.extent.boxes_extent.Goals as goal

pub returns-clause-near : goal.returns-clause-near
returns-clause-near c =
    subst (λ (found : Option Bounds). IfSome found (AreSidesWithin (2 ^ 27))) (sym c.bounds_of_corners.ensures)
    (c.bounds_of_near_points_are_near.ensures (2 ^ 27) (flat_map corners c.args.boxes.now)
    (all-corners-within c.args.boxes.now c.requires))
