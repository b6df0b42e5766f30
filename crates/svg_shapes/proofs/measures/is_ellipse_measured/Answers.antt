-- The centre and the radii are as the four tests say.
use Rattle.std.proofs.Common.{rules}
use Rattle.std.proofs.lemmas.Int.{to_z-of_z}
use mir.Syntax.{w64}
use mir.Val.{SFits}
use Rattle.svg_shapes.proofs.measures.is_ellipse_measured.Goals as goal

pub returns-then-is_length : goal.returns-then-is_length
returns-then-is_length c =
    let cx_fits : SFits w64 c.args.cx = c.ranges.cx in
    let cy_fits : SFits w64 c.args.cy = c.ranges.cy in
    let rx_fits : SFits w64 c.args.rx = c.ranges.rx in
    let ry_fits : SFits w64 c.args.ry = c.ranges.ry in
    let x = simp to_z-of_z at (c.if-is_place.ensures.0 (search rules)) in
    let y = simp to_z-of_z at (c.if-is_place-2.ensures.0 (search rules)) in
    let across = simp to_z-of_z at (c.if-is_length.ensures.0 (search rules)) in
    let down = simp to_z-of_z at c.is_length-then-is_length.ensures in (
      λ test. record { centre_across = x; centre_down = y; radius_across = across; radius_down = down.0 test },
      λ measured. down.1 measured.radius_down,
    )
