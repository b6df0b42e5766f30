use Rattle.std.proofs.Common.{FitsSigned, w64, rules, arith}
use mir.Syntax.{w128}
use Rattle.std.proofs.lemmas.Int.{ints, to_z-of_z}
use Rattle.svg_shapes.proofs.RectLemmas.{in_rect-by}
use Rattle.svg_shapes.proofs.rect.in_rect.Goals as goal

pub returns : goal.returns
returns c =
    let fits_l : FitsSigned w64 c.args.sides.x = search rules in
    let fits_t : FitsSigned w64 c.args.sides.y = search rules in
    let fits_w : FitsSigned w64 c.args.sides.w = search rules in
    let fits_h : FitsSigned w64 c.args.sides.h = search rules in
    let fits_rx : FitsSigned w64 c.args.rx = c.ranges.rx in
    let fits_ry : FitsSigned w64 c.args.ry = c.ranges.ry in
    let fits_x : FitsSigned w128 c.args.x = c.ranges.x in
    let fits_y : FitsSigned w128 c.args.y = c.ranges.y in
    let made = simp to_z-of_z at c.of.ensures.value in
    let tests = simp to_z-of_z at c.holds.ensures in
    in_rect-by c.args.sides c.args.rx c.args.ry c.of.result c.args.x c.args.y c.holds.result
    (omega (arith, ints)) (omega (arith, ints)) made tests
