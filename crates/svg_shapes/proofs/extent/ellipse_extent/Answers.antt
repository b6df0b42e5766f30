use Rattle.std.proofs.Common.{FitsSigned, w64, rules, ◌+ℤ◌, ◌-ℤ◌, arith, ap, sym, ◌∙◌}
use Rattle.std.proofs.lemmas.Int.{ints, to_z-of_z}
use Rattle.poly_shapes.specs.Extent.{bounds_of}
use Rattle.svg_shapes.proofs.ExtentLemmas.{ellipse_points-drawn}
use Rattle.svg_shapes.proofs.extent.ellipse_extent.Goals as goal

pub returns-clause-value : goal.returns-clause-value
returns-clause-value c =
    let fits_cx : FitsSigned w64 c.args.cx = c.ranges.cx in
    let fits_cy : FitsSigned w64 c.args.cy = c.ranges.cy in
    let fits_rx : FitsSigned w64 c.args.rx = c.ranges.rx in
    let fits_ry : FitsSigned w64 c.args.ry = c.ranges.ry in
    let fits_l : FitsSigned w64 (c.args.cx -ℤ c.args.rx) = search rules in
    let fits_t : FitsSigned w64 (c.args.cy -ℤ c.args.ry) = search rules in
    let fits_r : FitsSigned w64 (c.args.cx +ℤ c.args.rx) = search rules in
    let fits_b : FitsSigned w64 (c.args.cy +ℤ c.args.ry) = search rules in
    let made = simp to_z-of_z at c.extent_of_two.ensures.value in
    made ∙ ap bounds_of (sym
    (ellipse_points-drawn c.args.cx c.args.cy c.args.rx c.args.ry (omega (arith, ints)) (omega (arith, ints))))
