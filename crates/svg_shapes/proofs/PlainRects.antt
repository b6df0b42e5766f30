-- A rect without radii is a plain rectangle: no point between its edges belongs to a corner.
use Rattle.std.proofs.Common.{ℤ, pos, ◌+ℤ◌, ◌↔◌, arith}
use Rattle.std.proofs.lemmas.Int.{ints}
use Rattle.corner_shapes.specs.Curve.{IsBetweenEdges, FitsCorners}
use Rattle.svg_shapes.specs.declared.boxes.FineBox.{FineBox}
use Rattle.svg_shapes.specs.Measures.{twice}
use Rattle.svg_shapes.specs.Rects.{rect_of, rounded, InRect}
use Rattle.svg_shapes.specs.Boxes.{InBox}
use Rattle.svg_shapes.proofs.Twice.{twice-sum}

square-corners : (box : FineBox) (x y : ℤ) → IsBetweenEdges (rounded (rect_of box (pos 0) (pos 0))) x y
    → FitsCorners (rounded (rect_of box (pos 0) (pos 0))) x y
square-corners box x y inside = record {
  top_left = λ across down. absurd (omega (arith, ints, inside.left, across));
  top_right = λ across down. absurd (omega (arith, ints, inside.right, across));
  bottom_right = λ across down. absurd (omega (arith, ints, inside.right, across));
  bottom_left = λ across down. absurd (omega (arith, ints, inside.left, across));
}

pub plain-rect : (box : FineBox) (x y : ℤ) → InRect box (pos 0) (pos 0) x y ↔ InBox x y box
plain-rect box x y =
    let l = twice-sum box.x in
    let t = twice-sum box.y in
    let r = twice-sum (box.x +ℤ box.w) in
    let b = twice-sum (box.y +ℤ box.h) in
    let px = twice-sum x in
    let py = twice-sum y in (
      λ h. let inside = h.inside.between in record {
        left = omega (arith, ints, inside.left, l, px);
        right = omega (arith, ints, inside.right, r, px);
        top = omega (arith, ints, inside.top, t, py);
        bottom = omega (arith, ints, inside.bottom, b, py);
      },
      λ h. let inside : IsBetweenEdges (rounded (rect_of box (pos 0) (pos 0))) (twice x) (twice y) = record {
        left = omega (arith, ints, h.left, l, px);
        right = omega (arith, ints, h.right, r, px);
        top = omega (arith, ints, h.top, t, py);
        bottom = omega (arith, ints, h.bottom, b, py);
      } in record {
        wide = omega (arith, ints, h.left, h.right);
        high = omega (arith, ints, h.top, h.bottom);
        inside = record { between = inside; corners = square-corners box (twice x) (twice y) inside };
      },
    )
