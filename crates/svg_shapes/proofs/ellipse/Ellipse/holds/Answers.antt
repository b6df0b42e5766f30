use Rattle.std.proofs.Common.{FitsSigned, w64, rules, arith}
use mir.Syntax.{w128}
use Rattle.std.proofs.lemmas.Int.{ints, to_z-of_z}
use Rattle.svg_shapes.proofs.EllipseLemmas.{in_ellipse-by}
use Rattle.svg_shapes.proofs.ellipse.Ellipse.holds.Goals as goal

pub returns : goal.returns
returns c =
    let fits_cx : FitsSigned w64 c.args.self.cx = search rules in
    let fits_cy : FitsSigned w64 c.args.self.cy = search rules in
    let fits_rx : FitsSigned w64 c.args.self.rx = search rules in
    let fits_ry : FitsSigned w64 c.args.self.ry = search rules in
    let fits_x : FitsSigned w128 c.args.x = c.ranges.x in
    let fits_y : FitsSigned w128 c.args.y = c.ranges.y in
    let across = simp to_z-of_z at c.distance.ensures in
    let down = simp to_z-of_z at c.distance-2.ensures in
    let width = simp to_z-of_z at c.unsigned_abs.ensures.value in
    let height = simp to_z-of_z at c.unsigned_abs-2.ensures.value in
    in_ellipse-by c.args.self c.args.x c.args.y c.distance.result c.distance-2.result c.unsigned_abs.result c.unsigned_abs-2.result
    c.reaches.result (omega (arith, ints)) (omega (arith, ints)) across down width height c.reaches.ensures
