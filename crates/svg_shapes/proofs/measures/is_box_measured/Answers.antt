-- The place and the sides are as the four tests say.
use Rattle.std.proofs.Common.{rules}
use Rattle.std.proofs.lemmas.Int.{to_z-of_z}
use mir.Syntax.{w64}
use mir.Val.{SFits}
use Rattle.svg_shapes.proofs.measures.is_box_measured.Goals as goal

pub returns-then-is_length : goal.returns-then-is_length
returns-then-is_length c =
    let x_fits : SFits w64 c.args.measured.x = search rules in
    let y_fits : SFits w64 c.args.measured.y = search rules in
    let w_fits : SFits w64 c.args.measured.w = search rules in
    let h_fits : SFits w64 c.args.measured.h = search rules in
    let x = simp to_z-of_z at (c.if-is_place.ensures.0 (search rules)) in
    let y = simp to_z-of_z at (c.if-is_place-2.ensures.0 (search rules)) in
    let w = simp to_z-of_z at (c.if-is_length.ensures.0 (search rules)) in
    let h = simp to_z-of_z at c.is_length-then-is_length.ensures in
    (λ test. record { x = x; y = y; w = w; h = h.0 test }, λ measured. h.1 measured.h)
