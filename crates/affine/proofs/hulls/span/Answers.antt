use Rattle.std.proofs.Common.{rules, ◌∙◌, lit≤, ◌≡◌, ◌≤◌, ◌^◌, ℤ, to_z, of_z, FitsSigned}
use Rattle.std.proofs.Math.Nat.{le_trans}
use Rattle.std.specs.Prelude.{unsigned_abs}
use Rattle.std.specs.Int.{w64, w128}
use Rattle.std.proofs.lemmas.Int.{to_z-of_z}
use Rattle.affine.specs.Hull.{corner_image}
use Rattle.affine.proofs.Bits.{image_size, narrow, narrow-size, next-fits, next-read, part_size, positive-read, read}
use Rattle.affine.proofs.hulls.span.Goals as goal

-- what a call answers that was passed a row and a corner, and answers the corner's image
corner-read :
    (a c e u v r : ℤ) → FitsSigned w128 a → FitsSigned w128 c → FitsSigned w128 e → FitsSigned w64 u → FitsSigned w64 v →
    unsigned_abs r ≤ 2 ^ 117 → r ≡ corner_image (read a) (read c) (read e) (to_z w64 (of_z w64 u)) (to_z w64 (of_z w64 v)) →
    read r ≡ corner_image a c e u v
corner-read a c e u v r fa fc fe fu fv size h =
    narrow r (le_trans size (lit≤ tt))
    ∙ rw (to_z-of_z w128 a fa, to_z-of_z w128 c fc, to_z-of_z w128 e fe, to_z-of_z w64 u fu, to_z-of_z w64 v fv) at h

-- the four corners, without the casts between
record AreCorners (c : goal.After-floor-2) : Type 0 where
  left_top : read c.corner-left_top.result ≡ corner_image c.args.a c.args.c c.args.e c.args.r.now.l c.args.r.now.t
  right_top : read c.corner-right_top.result ≡ corner_image c.args.a c.args.c c.args.e c.args.r.now.r c.args.r.now.t
  left_bottom : read c.corner-left_bottom.result ≡ corner_image c.args.a c.args.c c.args.e c.args.r.now.l c.args.r.now.b
  right_bottom : read c.corner-right_bottom.result ≡ corner_image c.args.a c.args.c c.args.e c.args.r.now.r c.args.r.now.b

corners : (c : goal.After-floor-2) → AreCorners c
corners c =
    let r = c.args.r.now in
    let l : FitsSigned w64 c.args.r.now.l = search rules in
    let t : FitsSigned w64 c.args.r.now.t = search rules in
    let right : FitsSigned w64 c.args.r.now.r = search rules in
    let b : FitsSigned w64 c.args.r.now.b = search rules in
    let at = λ (u v z : ℤ) (fu : FitsSigned w64 u) (fv : FitsSigned w64 v). corner-read c.args.a c.args.c c.args.e u v z c.ranges.a c.ranges.c c.ranges.e fu fv in
    record {
      left_top = at r.l r.t c.corner-left_top.result l t c.corner-left_top.ensures.size c.corner-left_top.ensures.value;
      right_top = at r.r r.t c.corner-right_top.result right t c.corner-right_top.ensures.size c.corner-right_top.ensures.value;
      left_bottom = at r.l r.b c.corner-left_bottom.result l b c.corner-left_bottom.ensures.size c.corner-left_bottom.ensures.value;
      right_bottom = at r.r r.b c.corner-right_bottom.result right b c.corner-right_bottom.ensures.size c.corner-right_bottom.ensures.value;
    }

pub corner-left_top-requires : goal.corner-left_top-requires
corner-left_top-requires c = record {
  a_size = part_size c.args.a c.requires.a_size;
  c_size = part_size c.args.c c.requires.c_size;
  e_size = narrow-size c.args.e (2 ^ 70) c.requires.e_size (lit≤ tt);
}

pub corner-right_top-requires : goal.corner-right_top-requires
corner-right_top-requires c = record {
  a_size = part_size c.args.a c.requires.a_size;
  c_size = part_size c.args.c c.requires.c_size;
  e_size = narrow-size c.args.e (2 ^ 70) c.requires.e_size (lit≤ tt);
}

pub corner-left_bottom-requires : goal.corner-left_bottom-requires
corner-left_bottom-requires c = record {
  a_size = part_size c.args.a c.requires.a_size;
  c_size = part_size c.args.c c.requires.c_size;
  e_size = narrow-size c.args.e (2 ^ 70) c.requires.e_size (lit≤ tt);
}

pub corner-right_bottom-requires : goal.corner-right_bottom-requires
corner-right_bottom-requires c = record {
  a_size = part_size c.args.a c.requires.a_size;
  c_size = part_size c.args.c c.requires.c_size;
  e_size = narrow-size c.args.e (2 ^ 70) c.requires.e_size (lit≤ tt);
}

pub least-requires : goal.least-requires
least-requires c = record {
  sizes = (image_size c.corner-left_top.result c.corner-left_top.ensures.size, image_size c.corner-right_top.result c.corner-right_top.ensures.size);
  more_sizes = (image_size c.corner-left_bottom.result c.corner-left_bottom.ensures.size, image_size c.corner-right_bottom.result c.corner-right_bottom.ensures.size);
}

pub floor-requires : goal.floor-requires
floor-requires c = record {
  positive = positive-read c.args.q c.requires.q_size c.requires.positive;
  n_size = image_size c.least.result c.least.ensures.size;
  d_size = part_size c.args.q c.requires.q_size;
}

pub greatest-requires : goal.greatest-requires
greatest-requires c = record {
  sizes = (image_size c.corner-left_top.result c.corner-left_top.ensures.size, image_size c.corner-right_top.result c.corner-right_top.ensures.size);
  more_sizes = (image_size c.corner-left_bottom.result c.corner-left_bottom.ensures.size, image_size c.corner-right_bottom.result c.corner-right_bottom.ensures.size);
}

pub floor-requires-2 : goal.floor-requires-2
floor-requires-2 c = record {
  positive = positive-read c.args.q c.requires.q_size c.requires.positive;
  n_size = image_size c.greatest.result c.greatest.ensures.size;
  d_size = part_size c.args.q c.requires.q_size;
}

pub overflow_add-result : goal.overflow_add-result
overflow_add-result c = next-fits c.floor-2.result c.floor-2.ensures.size

pub returns-clause-from : goal.returns-clause-from
returns-clause-from c =
    let at = corners c in
    let least = rw (at.left_top, at.right_top, at.left_bottom, at.right_bottom) at c.least.ensures.value in
    let least_read = narrow c.least.result (le_trans c.least.ensures.size (lit≤ tt)) in
    let fits : FitsSigned w128 c.floor.result = search rules in
    to_z-of_z w128 c.floor.result fits ∙ rw (least_read, least, to_z-of_z w128 c.args.q c.ranges.q) at c.floor.ensures.value

pub returns-clause-before : goal.returns-clause-before
returns-clause-before c =
    let at = corners c in
    let greatest = rw (at.left_top, at.right_top, at.left_bottom, at.right_bottom) at c.greatest.ensures.value in
    let greatest_read = narrow c.greatest.result (le_trans c.greatest.ensures.size (lit≤ tt)) in
    let floor = rw (greatest_read, greatest, to_z-of_z w128 c.args.q c.ranges.q) at c.floor-2.ensures.value in
    next-read c.floor-2.result _ c.floor-2.ensures.size floor
