use Rattle.std.proofs.Common.{length, List, arith, ap, ◌∙◌, sym, subst}
use Rattle.std.specs.List.{All}
use Rattle.poly_shapes.specs.declared.point.Point.{Point}
use Rattle.poly_shapes.specs.Segments.{IsPlaced}
use Rattle.image_maps.proofs.Corners.{corners-few, corners-placed}
use Rattle.image_maps.proofs.straight.poly_of.Goals as goal

pub overflow_cast-ring : goal.overflow_cast-ring
overflow_cast-ring c =
    let few = corners-few c.args.kind c.args.numbers.now in
    let same = ap length c.in_ok-points.ensures in
    omega (arith, few, same)

pub new-requires-clause-placed : goal.new-requires-clause-placed
new-requires-clause-placed c =
    subst (λ (points : List Point). All IsPlaced points) (sym (c.deref.ensures.value ∙ c.in_ok-points.ensures))
    (corners-placed c.args.kind c.args.numbers.now c.requires.within)

pub new-requires-clause-few : goal.new-requires-clause-few
new-requires-clause-few c =
    let few = corners-few c.args.kind c.args.numbers.now in
    let same = ap length (c.deref.ensures.value ∙ c.in_ok-points.ensures) in
    omega (arith, few, same)
