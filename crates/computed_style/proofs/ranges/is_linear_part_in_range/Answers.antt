-- The two pairs are as the two tests say.
use Rattle.std.proofs.Common.{rules}
use Rattle.std.proofs.lemmas.Int.{to_z-of_z}
use mir.Syntax.{w64}
use mir.Val.{SFits}
use Rattle.computed_style.proofs.ranges.is_linear_part_in_range.Goals as goal

pub returns-then-are_within_2_30 : goal.returns-then-are_within_2_30
returns-then-are_within_2_30 c =
    let a_fits : SFits w64 c.args.a = search rules in
    let b_fits : SFits w64 c.args.b = search rules in
    let c_fits : SFits w64 c.args.c = search rules in
    let d_fits : SFits w64 c.args.d = search rules in
    let across = simp to_z-of_z at (c.if-are_within_2_30.ensures.0 (search rules)) in
    let down = simp to_z-of_z at c.are_within_2_30-then-are_within_2_30.ensures in
    (λ test. record { across = across; down = down.0 test }, λ range. down.1 range.down)
