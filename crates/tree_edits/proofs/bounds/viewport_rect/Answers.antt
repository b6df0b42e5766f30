-- No side of a viewport leaves 64 bits.
use Rattle.std.proofs.Common.{◌≡◌, pos, ◌+ℤ◌, to_z, of_z, w64, arith}
use Rattle.std.proofs.lemmas.Int.{ints}
use Rattle.tree_edits.proofs.bounds.viewport_rect.Goals as goal

pub returns : goal.returns
returns c =
    let v = c.args.viewport.now in
    let r_is : to_z w64 (of_z w64 (to_z w64 (of_z w64 v.w) +ℤ pos 1)) ≡ v.w +ℤ pos 1 = omega (arith, ints, c.requires.width.0, c.requires.width.1) in
    let b_is : to_z w64 (of_z w64 (to_z w64 (of_z w64 v.h) +ℤ pos 1)) ≡ v.h +ℤ pos 1 = omega (arith, ints, c.requires.height.0, c.requires.height.1) in
    cc
