use Rattle.std.proofs.Common.{FitsSigned, w64, rules, ◌+ℤ◌, refl}
use Rattle.std.proofs.lemmas.Int.{to_z-of_z}
use Rattle.svg_shapes.proofs.extent.corners.Goals as goal

pub returns : goal.returns
returns c =
    let fits_x : FitsSigned w64 c.args.sides.x = search rules in
    let fits_y : FitsSigned w64 c.args.sides.y = search rules in
    let fits_w : FitsSigned w64 c.args.sides.w = search rules in
    let fits_h : FitsSigned w64 c.args.sides.h = search rules in
    let fits_r : FitsSigned w64 (c.args.sides.x +ℤ c.args.sides.w) = search rules in
    let fits_b : FitsSigned w64 (c.args.sides.y +ℤ c.args.sides.h) = search rules in
    simp to_z-of_z refl
