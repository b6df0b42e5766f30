-- The box and the radii are as the three tests say.
use Rattle.std.proofs.Common.{rules}
use Rattle.std.proofs.lemmas.Int.{to_z-of_z}
use mir.Syntax.{w64}
use mir.Val.{SFits}
use Rattle.svg_shapes.proofs.measures.is_rect_measured.Goals as goal

pub returns-then-is_length : goal.returns-then-is_length
returns-then-is_length c =
    let rx_fits : SFits w64 c.args.rx = c.ranges.rx in
    let ry_fits : SFits w64 c.args.ry = c.ranges.ry in
    let sides = c.if-is_box_measured.ensures.0 (search rules) in
    let across = simp to_z-of_z at (c.if-is_length.ensures.0 (search rules)) in
    let down = simp to_z-of_z at c.is_length-then-is_length.ensures in
    (λ test. record { sides = sides; radius_across = across; radius_down = down.0 test }, λ measured. down.1 measured.radius_down)
