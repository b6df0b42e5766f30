-- The curves of a box within the limits have edges and radii of the sizes for which rounded boxes are tested.
use Rattle.std.proofs.Common.{◌≡◌, ℕ, ◌^◌, ◌≤◌, List, ℤ, pos, ◌+ℤ◌, ◌-ℤ◌, unsigned_abs, get_or, arith}
use Rattle.std.specs.Prelude.{All}
use mir.Syntax.{w64}
use mir.Val.{to_z, of_z}
use Rattle.std.proofs.lemmas.Int.{ints, clamps}
use Rattle.corner_shapes.specs.declared.radii.Radii.{Radii}
use Rattle.corner_shapes.specs.declared.radii.Corners.{Corners}
use Rattle.corner_shapes.specs.Radii.{IsLengthWithin, AreBothWithin, AreRadiiWithin}
use Rattle.corner_shapes.specs.Curve.{fine, inner_radius, inner_radii, IsMeasured, AreBordersWithin}
use Rattle.computed_style.specs.Ranges.{IsSide}
use Rattle.box_tree.specs.declared.piece.Piece.{Piece}
use Rattle.box_tree.specs.Forest.{Label}
use Rattle.box_tree.specs.Contents.{IsBoxInRange, IsSpanInRange}
use Rattle.spaces.proofs.WidthLemmas.{side-at, side-fits}
use Rattle.scroll_clip.specs.Curves.{borders, box_corners, border_curve, padding_curve}

-- a length within a limit is within each greater one
longer : (small great : ℕ) (x : ℤ) → small ≤ great → IsLengthWithin small x → IsLengthWithin great x
longer small great x more is = record { at_least = is.at_least; at_most = omega (arith, ints, is.at_most) }

both-longer : (small great : ℕ) (r : Radii) → small ≤ great → AreBothWithin small r → AreBothWithin great r
both-longer small great r more is = record { x = longer small great r.x more is.x; y = longer small great r.y more is.y }

radii-longer : (small great : ℕ) (c : Corners) → small ≤ great → AreRadiiWithin small c → AreRadiiWithin great c
radii-longer small great c more is = record {
  top_left = both-longer small great _ more is.top_left;
  top_right = both-longer small great _ more is.top_right;
  bottom_right = both-longer small great _ more is.bottom_right;
  bottom_left = both-longer small great _ more is.bottom_left;
}

-- a radius less a border is no longer than the radius
inner-within : (most : ℕ) (radius width : ℤ) → IsLengthWithin most radius → IsLengthWithin (2 ^ 20) width → IsLengthWithin most (inner_radius radius width)
inner-within most radius width r w = record {
  at_least = omega (arith, ints, clamps);
  at_most = omega (arith, ints, clamps, r.at_least, r.at_most, w.at_least);
}

inner-both : (most : ℕ) (radii : Radii) (across down : ℤ) → AreBothWithin most radii → IsLengthWithin (2 ^ 20) across → IsLengthWithin (2 ^ 20) down → AreBothWithin most (inner_radii radii across down)
inner-both most radii across down is a d = record { x = inner-within most radii.x across is.x a; y = inner-within most radii.y down is.y d }

-- an edge of a box in fine units, and the same moved by a border
edge-size : (x : ℤ) → unsigned_abs x ≤ 2 ^ 26 → unsigned_abs (fine x) ≤ 2 ^ 34
edge-size x is = omega (arith, ints)

moved-in : (x width : ℤ) → unsigned_abs x ≤ 2 ^ 26 → IsLengthWithin (2 ^ 20) width → unsigned_abs (fine x +ℤ fine width) ≤ 2 ^ 34
moved-in x width is w = omega (arith, ints, w.at_least, w.at_most)

moved-out : (x width : ℤ) → unsigned_abs x ≤ 2 ^ 26 → IsLengthWithin (2 ^ 20) width → unsigned_abs (fine x -ℤ fine width) ≤ 2 ^ 34
moved-out x width is w = omega (arith, ints, w.at_least, w.at_most)

-- a span within the limits begins and ends within 2^26
pub span-start : (from side : ℤ) → IsSpanInRange from side → unsigned_abs from ≤ 2 ^ 26
span-start from side is = omega (arith, ints, is.start.0, is.start.1)

pub span-end : (from side : ℤ) → IsSpanInRange from side → unsigned_abs (from +ℤ side) ≤ 2 ^ 26
span-end from side is = omega (arith, ints, is.start.0, is.start.1, is.length.0, is.end)

-- each of the widths of borders is a length within 2^20, and so is each radius that is declared
pub length-at : (sides : List ℤ) (k : ℕ) → All (IsSide 20) sides → IsLengthWithin (2 ^ 20) (get_or sides k (pos 0))
length-at sides k all = let is = side-at sides k all in record { at_least = is.0; at_most = is.1 }

pub borders-within : (n : Label) → All (IsSide 20) n.style.border → AreBordersWithin (2 ^ 20) (borders n)
borders-within n all = record {
  top = length-at n.style.border 0 all;
  right = length-at n.style.border 1 all;
  bottom = length-at n.style.border 2 all;
  left = length-at n.style.border 3 all;
}

-- the width of a border as a number of 64 bits
pub width-fits : (x width : ℤ) → x ≡ width → IsSide 20 width → IsLengthWithin (2 ^ 20) (to_z w64 (of_z w64 x))
width-fits x width is side = let fits = side-fits x width is side in record { at_least = fits.0; at_most = fits.1 }

module _ (n : Label) (box : Piece) (box_range : IsBoxInRange box) where
  pub border-measured : AreRadiiWithin (2 ^ 26) (box_corners n box) → IsMeasured (border_curve n box)
  unfolding border_curve
  border-measured corners = record {
    left = edge-size box.l (span-start box.l box.w box_range.across);
    top = edge-size box.t (span-start box.t box.h box_range.down);
    right = edge-size (box.l +ℤ box.w) (span-end box.l box.w box_range.across);
    bottom = edge-size (box.t +ℤ box.h) (span-end box.t box.h box_range.down);
    radii = radii-longer (2 ^ 26) (2 ^ 28) (box_corners n box) (omega arith) corners;
  }

  pub padding-measured : IsMeasured (border_curve n box) → AreBordersWithin (2 ^ 20) (borders n) → IsMeasured (padding_curve n box)
  unfolding border_curve padding_curve
  padding-measured border width = record {
    left = moved-in box.l (borders n).left (span-start box.l box.w box_range.across) width.left;
    top = moved-in box.t (borders n).top (span-start box.t box.h box_range.down) width.top;
    right = moved-out (box.l +ℤ box.w) (borders n).right (span-end box.l box.w box_range.across) width.right;
    bottom = moved-out (box.t +ℤ box.h) (borders n).bottom (span-end box.t box.h box_range.down) width.bottom;
    radii = record {
      top_left = inner-both (2 ^ 28) _ (borders n).left (borders n).top border.radii.top_left width.left width.top;
      top_right = inner-both (2 ^ 28) _ (borders n).right (borders n).top border.radii.top_right width.right width.top;
      bottom_right = inner-both (2 ^ 28) _ (borders n).right (borders n).bottom border.radii.bottom_right width.right width.bottom;
      bottom_left = inner-both (2 ^ 28) _ (borders n).left (borders n).bottom border.radii.bottom_left width.left width.bottom;
    };
  }
