-- No edge of a box leaves 64 bits.
use Rattle.std.proofs.Common.{◌≡◌, ◌+ℤ◌, to_z, of_z, w64, arith}
use Rattle.std.proofs.lemmas.Int.{ints}
use Rattle.tree_edits.proofs.bounds.box_rect.Goals as goal

pub returns-clause-rect : goal.returns-clause-rect
returns-clause-rect c =
    let box = c.args.piece.now in
    let across = c.requires.across in
    let down = c.requires.down in
    let l_is : to_z w64 (of_z w64 box.l) ≡ box.l = omega (arith, ints, across.start.0, across.start.1) in
    let t_is : to_z w64 (of_z w64 box.t) ≡ box.t = omega (arith, ints, down.start.0, down.start.1) in
    let r_is : to_z w64 (of_z w64 (to_z w64 (of_z w64 box.l) +ℤ to_z w64 (of_z w64 box.w))) ≡ box.l +ℤ box.w = omega (arith, ints, across.start.0, across.start.1, across.length.0, across.length.1) in
    let b_is : to_z w64 (of_z w64 (to_z w64 (of_z w64 box.t) +ℤ to_z w64 (of_z w64 box.h))) ≡ box.t +ℤ box.h = omega (arith, ints, down.start.0, down.start.1, down.length.0, down.length.1) in
    cc
