-- The lesser and the greater of two numbers fit.
use Rattle.std.proofs.Common.{◌≡◌, refl, arith}
use Rattle.std.proofs.lemmas.Int.{ints, clamps}
use mir.Syntax.{w64}
use mir.Val.{to_z, of_z}
use Rattle.box_tree.specs.Edited.{clamped}
use Rattle.box_tree.proofs.scroll.clamp.Goals as goal

pub returns : goal.returns
returns c =
    let x_is : to_z w64 (of_z w64 c.max.result) ≡ clamped c.args.max.x c.args.scroll.x = omega (arith, ints, clamps, c.min.ensures.value, c.max.ensures.value) in
    let y_is : to_z w64 (of_z w64 c.max-2.result) ≡ clamped c.args.max.y c.args.scroll.y = omega (arith, ints, clamps, c.min-2.ensures.value, c.max-2.ensures.value) in
    rw (x_is, y_is) refl
