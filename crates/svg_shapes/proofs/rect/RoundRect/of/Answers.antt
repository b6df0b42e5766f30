use Rattle.std.proofs.Common.{arith, rules, FitsSigned, w64}
use Rattle.std.proofs.lemmas.Int.{ints, to_z-of_z}
use Rattle.svg_shapes.proofs.RectLemmas.{same_rect}
use Rattle.svg_shapes.proofs.rect.RoundRect.of.Goals as goal

pub returns-clause-value : goal.returns-clause-value
returns-clause-value c =
    let fits_w : FitsSigned w64 c.args.sides.w = search rules in
    let fits_h : FitsSigned w64 c.args.sides.h = search rules in
    let fits_rx : FitsSigned w64 c.args.rx = c.ranges.rx in
    let fits_ry : FitsSigned w64 c.args.ry = c.ranges.ry in
    let fits_across : FitsSigned w64 c.used_radius.result = search rules in
    let fits_down : FitsSigned w64 c.used_radius-2.result = search rules in
    let across = simp to_z-of_z at c.used_radius.ensures.value in
    let down = simp to_z-of_z at c.used_radius-2.ensures.value in
    same_rect (omega (arith, ints)) (omega (arith, ints)) (omega (arith, ints)) (omega (arith, ints))
    (simp to_z-of_z across) (simp to_z-of_z down)
