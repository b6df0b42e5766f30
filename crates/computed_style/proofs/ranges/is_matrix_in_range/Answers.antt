-- The two parts are as the two tests say.
use Rattle.std.proofs.Common.{rules}
use Rattle.std.proofs.lemmas.Int.{to_z-of_z}
use mir.Syntax.{w64}
use mir.Val.{SFits}
use Rattle.computed_style.proofs.ranges.is_matrix_in_range.Goals as goal

pub returns-then-is_linear_part_in_range : goal.returns-then-is_linear_part_in_range
returns-then-is_linear_part_in_range c =
    let a_fits : SFits w64 c.args.a = search rules in
    let b_fits : SFits w64 c.args.b = search rules in
    let c_fits : SFits w64 c.args.c = search rules in
    let d_fits : SFits w64 c.args.d = search rules in
    let e_fits : SFits w64 c.args.e = search rules in
    let f_fits : SFits w64 c.args.f = search rules in
    let q_fits : SFits w64 c.args.q = search rules in
    let linear = simp to_z-of_z at (c.if-is_linear_part_in_range.ensures.0 (search rules)) in
    let moved = simp to_z-of_z at c.is_translation_in_range.ensures in
    (λ test. record { linear = linear; moved = moved.0 test }, λ range. moved.1 range.moved)
