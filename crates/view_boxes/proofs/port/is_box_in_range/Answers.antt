-- The place and the sides are as the two tests say.
use Rattle.std.proofs.Common.{rules}
use Rattle.std.proofs.lemmas.Int.{to_z-of_z}
use mir.Syntax.{w64}
use mir.Val.{SFits}
use Rattle.view_boxes.proofs.port.is_box_in_range.Goals as goal

pub returns-then-is_place : goal.returns-then-is_place
returns-then-is_place c =
    let x_fits : SFits w64 c.args.x = search rules in
    let y_fits : SFits w64 c.args.y = search rules in
    let w_fits : SFits w64 c.args.w = search rules in
    let h_fits : SFits w64 c.args.h = search rules in
    let place = simp to_z-of_z at (c.if-is_place.ensures.0 (search rules)) in
    let sides = simp to_z-of_z at c.are_sides.ensures in
    (λ test. record { place = place; sides = sides.0 test }, λ range. sides.1 range.sides)
