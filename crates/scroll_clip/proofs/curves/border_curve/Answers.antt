-- The edges are those of the box in fine units, and fit.
use Rattle.std.proofs.Common.{◌≡◌, ◌^◌, pos, ◌*ℤ◌, ◌+ℤ◌, sym, subst, arith}
use Rattle.std.proofs.lemmas.Int.{ints}
use mir.Syntax.{w64}
use mir.Val.{to_z, of_z}
use Rattle.corner_shapes.specs.Radii.{AreRadiiWithin}
use Rattle.corner_shapes.specs.Curve.{fine, IsMeasured}
use Rattle.corner_shapes.proofs.CurveLemmas.{same_box}
use Rattle.box_tree.specs.Kept.{label_of}
use Rattle.scroll_clip.specs.Curves.{border_curve}
use Rattle.scroll_clip.proofs.CurveLemmas.{border-measured}
use Rattle.scroll_clip.proofs.curves.border_curve.Goals as goal

pub returns : goal.returns
unfolding border_curve
returns c =
    let n = label_of c.args.node.now in
    let box = c.args.piece.now in
    let across = c.requires.piece.across in
    let down = c.requires.piece.down in
    let l_is : to_z w64 (of_z w64 (pos 64 *ℤ to_z w64 (of_z w64 box.l))) ≡ fine box.l = omega (arith, ints, across.start.0, across.start.1) in
    let t_is : to_z w64 (of_z w64 (pos 64 *ℤ to_z w64 (of_z w64 box.t))) ≡ fine box.t = omega (arith, ints, down.start.0, down.start.1) in
    let r_is : to_z w64 (of_z w64 c.far_edge.result) ≡ fine (box.l +ℤ box.w) = omega (arith, ints, c.far_edge.ensures, across.start.0, across.start.1, across.length.0, across.length.1) in
    let b_is : to_z w64 (of_z w64 c.far_edge-2.result) ≡ fine (box.t +ℤ box.h) = omega (arith, ints, c.far_edge-2.ensures, down.start.0, down.start.1, down.length.0, down.length.1) in
    let curve = same_box l_is t_is r_is b_is c.box_corners.ensures.corners in
    record {
      curve = curve;
      measured = subst IsMeasured (sym curve) (border-measured n box c.requires.piece (subst (AreRadiiWithin (2 ^ 26)) c.box_corners.ensures.corners c.box_corners.ensures.within));
    }
