-- A matrix is as the test of its numbers says.
use Rattle.std.proofs.Common.{rules}
use Rattle.std.proofs.lemmas.Int.{to_z-of_z}
use mir.Syntax.{w64}
use mir.Val.{SFits}
use Rattle.computed_style.proofs.function.Function.in_range.Goals as goal

pub returns-in-Matrix : goal.returns-in-Matrix
returns-in-Matrix c =
    let a_fits : SFits w64 c.in-Matrix.a = search rules in
    let b_fits : SFits w64 c.in-Matrix.b = search rules in
    let c_fits : SFits w64 c.in-Matrix.c = search rules in
    let d_fits : SFits w64 c.in-Matrix.d = search rules in
    let e_fits : SFits w64 c.in-Matrix.e = search rules in
    let f_fits : SFits w64 c.in-Matrix.f = search rules in
    let q_fits : SFits w64 c.in-Matrix.q = search rules in
    let test = simp to_z-of_z at c.is_matrix_in_range.ensures in
    rw c.in-Matrix.is test
