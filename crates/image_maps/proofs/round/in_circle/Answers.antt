use Rattle.std.proofs.Common.{rules, ◌≡◌, ◌*◌, pos, get_or, arith, FitsSigned, w64}
use Rattle.std.specs.Prelude.{unsigned_abs}
use mir.Syntax.{w128}
use Rattle.std.proofs.lemmas.Int.{ints, to_z-of_z}
use Rattle.image_maps.specs.Area.{number}
use Rattle.image_maps.proofs.Circles.{in_circle-by}
use Rattle.image_maps.proofs.round.in_circle.Goals as goal

pub returns : goal.returns
returns c =
    let numbers = c.args.numbers.now in
    let fits_x : FitsSigned w128 c.args.x = c.ranges.x in
    let fits_y : FitsSigned w128 c.args.y = c.ranges.y in
    let fits_0 : FitsSigned w64 (get_or numbers 0 (pos 0)) = search rules in
    let fits_1 : FitsSigned w64 (get_or numbers 1 (pos 0)) = search rules in
    let fits_2 : FitsSigned w64 (get_or numbers 2 (pos 0)) = search rules in
    let across = simp to_z-of_z at c.distance.ensures in
    let down = simp to_z-of_z at c.distance-2.ensures in
    let size = simp to_z-of_z at c.unsigned_abs.ensures.value in
    let radius : 64 * c.unsigned_abs.result ≡ 64 * unsigned_abs (number numbers 2) = cc in
    in_circle-by numbers c.args.x c.args.y c.distance.result c.distance-2.result (64 * c.unsigned_abs.result) c.is_within_circle.result
    (omega arith) (omega (arith, ints)) across down radius c.is_within_circle.ensures
