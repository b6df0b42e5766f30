-- An only box has the used radii of its sides.
use Rattle.std.proofs.Common.{◌≡◌, ◌==◌, List, Bool, true, length, if◌then◌else◌, unsigned_abs, sym, ap, ◌∙◌, arith}
use Rattle.std.proofs.lemmas.Int.{ints}
use Rattle.std.proofs.lemmas.Bool.Decides.{nat_tests}
use mir.Syntax.{w64}
use mir.Val.{to_z, of_z}
use Rattle.corner_shapes.specs.Overlap.{used_corners}
use Rattle.box_tree.specs.declared.piece.Piece.{Piece}
use Rattle.box_tree.specs.Kept.{label_of}
use Rattle.scroll_clip.specs.Curves.{declared_radii, square_corners}
use Rattle.scroll_clip.proofs.curves.box_corners.Goals as goal

pub returns-then-as_slice-eq1-clause-corners : goal.returns-then-as_slice-eq1-clause-corners
returns-then-as_slice-eq1-clause-corners c =
    let n = label_of c.args.node.now in
    let box = c.args.piece.now in
    let count = ap (λ (boxes : List Piece). length boxes) c.as_slice.ensures in
    let one : (length n.boxes == 1) ≡ true = grind (arith, nat_tests) in
    let w_is : to_z w64 (of_z w64 box.w) ≡ box.w = omega (arith, ints, c.requires.piece.across.length.0, c.requires.piece.across.length.1) in
    let h_is : to_z w64 (of_z w64 box.h) ≡ box.h = omega (arith, ints, c.requires.piece.down.length.0, c.requires.piece.down.length.1) in
    let exact = rw (w_is, h_is) at c.used_radii.ensures.exact in
    exact ∙ ap (λ (b : Bool). if b then used_corners (unsigned_abs box.w) (unsigned_abs box.h) (declared_radii n) else square_corners) (sym one)
