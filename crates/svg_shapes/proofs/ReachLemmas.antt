-- How far a shape reaches: the bounds of its base points, moved out by a stroke's width, hold every point that the
-- shape or its stroke holds. Each family has a lemma about the rectangle that holds its base points; for paths the
-- laws of polygons say it.
use Rattle.std.proofs.Common.{◌≡◌, ℕ, zero, suc, ◌<◌, ◌≤◌, ◌⊎◌, inl, inr, ℤ, pos, ◌+ℤ◌, ◌-ℤ◌, ◌<ℤ◌, ◌≤ℤ◌, unsigned_abs, List, [], ◌∷◌, length, get_or, Option, None, Some, IfSome, IsSomeAnd, IsTrue, arith, refl, sym, subst}
use Rattle.std.specs.List.{All, flat_map}
use Rattle.std.proofs.lemmas.Int.{ints}
use Rattle.corner_shapes.specs.Curve.{distance}
use Rattle.poly_shapes.specs.declared.point.Point.{Point}
use Rattle.poly_shapes.specs.declared.point.Bounds.{Bounds}
use Rattle.poly_shapes.specs.declared.point.Cap.{Cap}
use Rattle.poly_shapes.specs.declared.point.FillRule.{FillRule}
use Rattle.poly_shapes.specs.Rectangle.{point}
use Rattle.poly_shapes.specs.Outline.{Outline, edges, line}
use Rattle.poly_shapes.specs.Fill.{Fills}
use Rattle.poly_shapes.specs.Stroke.{strokes}
use Rattle.poly_shapes.specs.Extent.{bounds_of, Holds, moved_out}
use Rattle.svg_shapes.specs.declared.boxes.FineBox.{FineBox}
use Rattle.svg_shapes.specs.declared.ellipse.Ellipse.{Ellipse}
use Rattle.svg_shapes.specs.declared.shape.Shape.{Shape}
use Rattle.svg_shapes.specs.declared.shape.Shape.TheVariants.{Path, Polygon, Polyline, Line, Rect, Circle, Ellipse as EllipseOf, Boxes}
use Rattle.svg_shapes.specs.Measures.{twice}
use Rattle.svg_shapes.specs.Rects.{InRect, OnRect}
use Rattle.svg_shapes.specs.Ellipses.{ellipse_of, grown_ellipse, InEllipse, OnEllipse}
use Rattle.svg_shapes.specs.Boxes.{InBox, InBoxes}
use Rattle.svg_shapes.specs.Shapes.{box_of, Interior, Perimeter, corners, rect_points, ellipse_points, base_points}
use Rattle.svg_shapes.proofs.Twice.{twice-sum, positive-half, size-positive}
use Rattle.svg_shapes.proofs.EllipseLemmas.{too_far_across, too_far_down}
use Rattle.svg_shapes.proofs.ExtentLemmas.{ellipse_points-drawn, rect_points-drawn}

-- the laws of polygons that this rests on
abbrev pub FillLaw : Type 0
FillLaw = (rule : FillRule) (outline : Outline) (x y : ℤ) → Fills rule (edges outline) x y
    → IsSomeAnd (bounds_of outline.points) (λ b. Holds b x y)

abbrev pub StrokeLaw : Type 0
StrokeLaw = (outline : Outline) (width : ℕ) (ends : Cap) (x y : ℤ) → IsTrue (strokes outline width ends x y)
    → IsSomeAnd (bounds_of outline.points) (λ b. Holds (moved_out width b) x y)

abbrev pub BoundsLaw : Type 0
BoundsLaw = (points : List Point) → IfSome (bounds_of points) (λ b. All (λ p. Holds b p.x p.y) points)

-- some rectangle holds the point with its sides moved out
abbrev pub IsReached : (width : ℕ) → (x y : ℤ) → Option Bounds → Type 0
IsReached width x y found = IsSomeAnd found (λ b. Holds (moved_out width b) x y)

widened_reach : (width : ℕ) (x y : ℤ) (found : Option Bounds)
    → IsSomeAnd found (λ b. Holds b x y) → IsReached width x y found
widened_reach width x y None held = held
widened_reach width x y (Some b) held = record {
  left = omega (arith, ints, held.left);
  right = omega (arith, ints, held.right);
  top = omega (arith, ints, held.top);
  bottom = omega (arith, ints, held.bottom);
}

-- ---- rects

-- a point in half fine units no further out of a box than the width
span-reach : (b : Bounds) (box : FineBox) (width : ℕ) (x y : ℤ)
    → Holds b box.x box.y → Holds b (box.x +ℤ box.w) (box.y +ℤ box.h)
    → (twice box.x -ℤ pos width) ≤ℤ twice x → twice x <ℤ (twice (box.x +ℤ box.w) +ℤ pos width)
    → (twice box.y -ℤ pos width) ≤ℤ twice y → twice y <ℤ (twice (box.y +ℤ box.h) +ℤ pos width)
    → Holds (moved_out width b) x y
span-reach b box width x y first last left right top bottom =
    let l = twice-sum box.x in
    let t = twice-sum box.y in
    let r = twice-sum (box.x +ℤ box.w) in
    let d = twice-sum (box.y +ℤ box.h) in
    let px = twice-sum x in
    let py = twice-sum y in
    record {
      left = omega (arith, ints, left, first.left, l, px);
      right = omega (arith, ints, right, last.right, r, px);
      top = omega (arith, ints, top, first.top, t, py);
      bottom = omega (arith, ints, bottom, last.bottom, d, py);
    }

none : Point
none = point (pos 0) (pos 0)

rect-interior : BoundsLaw → (box : FineBox) (rx ry : ℤ) (width : ℕ) (x y : ℤ) → InRect box rx ry x y
    → IsReached width x y (bounds_of (rect_points box))
rect-interior law box rx ry width x y held =
    let inside = held.inside.between in
    let hold = law (corners box) in
    subst (λ (points : List Point). IsReached width x y (bounds_of points)) (sym (rect_points-drawn box held.wide held.high))
    (span-reach _ box width x y (hold 0 none (omega arith)) (hold 2 none (omega arith))
    (omega (arith, ints, inside.left)) (omega (arith, ints, inside.right))
    (omega (arith, ints, inside.top)) (omega (arith, ints, inside.bottom)))

rect-perimeter : BoundsLaw → (box : FineBox) (rx ry : ℤ) (width : ℕ) (x y : ℤ) → OnRect box rx ry width x y
    → IsReached width x y (bounds_of (rect_points box))
rect-perimeter law box rx ry width x y held =
    let inside = held.band.within.between in
    let hold = law (corners box) in
    subst (λ (points : List Point). IsReached width x y (bounds_of points)) (sym (rect_points-drawn box held.wide held.high))
    (span-reach _ box width x y (hold 0 none (omega arith)) (hold 2 none (omega arith))
    inside.left inside.right inside.top inside.bottom)

-- ---- ellipses

no_further : (far near : ℕ) → (near < far → ⊥) → far ≤ near
no_further far near never = by_order (less_or_not near far)
  where
    less_or_not : (m n : ℕ) → (m < n) ⊎ (n ≤ m)
    less_or_not m n = grind arith

    by_order : (near < far) ⊎ (far ≤ near) → far ≤ near
    by_order (inl less) = absurd (never less)
    by_order (inr le) = le

-- a point that an ellipse holds is no further off than its radii, across and down
held-across : (e : Ellipse) (x y : ℤ) → InEllipse e x y → distance (twice x) e.cx ≤ unsigned_abs e.rx
held-across e x y held =
    no_further (distance (twice x) e.cx) (unsigned_abs e.rx)
    (λ far. too_far_across _ (distance (twice y) e.cy) _ _ far (size-positive e.ry held.high) held.inside)

held-down : (e : Ellipse) (x y : ℤ) → InEllipse e x y → distance (twice y) e.cy ≤ unsigned_abs e.ry
held-down e x y held =
    no_further (distance (twice y) e.cy) (unsigned_abs e.ry)
    (λ far. too_far_down (distance (twice x) e.cx) _ _ _ far (size-positive e.rx held.wide) held.inside)

-- one coordinate of a point no further than the radius and half the width, in half fine units, from the centre
side-reach : (centre radius : ℤ) (extent : ℤ) (width : ℕ) (at : ℤ) → pos 0 <ℤ twice radius
    → extent ≤ℤ (twice radius +ℤ pos width)
    → distance (twice at) (twice centre) ≤ unsigned_abs extent → pos 0 <ℤ extent
    → (((centre -ℤ radius) -ℤ pos width) ≤ℤ at) × (at ≤ℤ ((centre +ℤ radius) +ℤ pos width))
side-reach centre radius extent width at positive most near above =
    let c = twice-sum centre in
    let r = twice-sum radius in
    let p = twice-sum at in
    (omega (arith, ints), omega (arith, ints))

out_of : (b : Bounds) (width : ℕ) (l t r d : ℤ) (x y : ℤ) → Holds b l t → Holds b r d
    → ((l -ℤ pos width) ≤ℤ x) × (x ≤ℤ (r +ℤ pos width)) → ((t -ℤ pos width) ≤ℤ y) × (y ≤ℤ (d +ℤ pos width))
    → Holds (moved_out width b) x y
out_of b width l t r d x y first last across down = record {
  left = omega (arith, ints, first.left, across.0);
  right = omega (arith, ints, last.right, across.1);
  top = omega (arith, ints, first.top, down.0);
  bottom = omega (arith, ints, last.bottom, down.1);
}

-- an ellipse with the same centre, and radii no greater by more than the width
ellipse-reach : BoundsLaw → (cx cy rx ry : ℤ) (e : Ellipse) (width : ℕ) (x y : ℤ)
    → pos 0 <ℤ twice rx → pos 0 <ℤ twice ry → e.cx ≡ twice cx → e.cy ≡ twice cy
    → e.rx ≤ℤ (twice rx +ℤ pos width) → e.ry ≤ℤ (twice ry +ℤ pos width)
    → InEllipse e x y → IsReached width x y (bounds_of (ellipse_points cx cy rx ry))
ellipse-reach law cx cy rx ry e width x y wide high same_cx same_cy most_rx most_ry held =
    let ends = point (cx -ℤ rx) (cy -ℤ ry) ∷ point (cx +ℤ rx) (cy +ℤ ry) ∷ [] in
    let hold = law ends in
    let near_x = rw same_cx at (held-across e x y held) in
    let near_y = rw same_cy at (held-down e x y held) in
    subst (λ (points : List Point). IsReached width x y (bounds_of points))
    (sym (ellipse_points-drawn cx cy rx ry (positive-half rx wide) (positive-half ry high)))
    (out_of _ width (cx -ℤ rx) (cy -ℤ ry) (cx +ℤ rx) (cy +ℤ ry) x y
    (hold 0 none (omega arith)) (hold 1 none (omega arith))
    (side-reach cx rx e.rx width x wide most_rx near_x held.wide)
    (side-reach cy ry e.ry width y high most_ry near_y held.high))

ellipse-interior : BoundsLaw → (cx cy rx ry : ℤ) (width : ℕ) (x y : ℤ) → InEllipse (ellipse_of cx cy rx ry) x y
    → IsReached width x y (bounds_of (ellipse_points cx cy rx ry))
ellipse-interior law cx cy rx ry width x y held =
    ellipse-reach law cx cy rx ry (ellipse_of cx cy rx ry) width x y held.wide held.high refl refl
    (omega (arith, ints)) (omega (arith, ints)) held

ellipse-perimeter : BoundsLaw → (cx cy rx ry : ℤ) (width : ℕ) (x y : ℤ) → OnEllipse (ellipse_of cx cy rx ry) width x y
    → IsReached width x y (bounds_of (ellipse_points cx cy rx ry))
ellipse-perimeter law cx cy rx ry width x y held =
    ellipse-reach law cx cy rx ry (grown_ellipse width (ellipse_of cx cy rx ry)) width x y held.wide held.high refl refl
    (omega (arith, ints)) (omega (arith, ints)) held.within

-- ---- boxes

-- what each corner of boxes has, the left top and the right bottom corner of each box have
corners-have : (P : Point → Type 0) (boxes : List FineBox) → All P (flat_map corners boxes) → (k : ℕ) (d : FineBox)
    → k < length boxes → P (point (get_or boxes k d).x (get_or boxes k d).y)
    × P (point ((get_or boxes k d).x +ℤ (get_or boxes k d).w) ((get_or boxes k d).y +ℤ (get_or boxes k d).h))
corners-have P [] all k d h = absurd (omega arith)
corners-have P (box ∷ boxes) all zero d h = (all 0 none (omega arith), all 2 none (omega arith))
corners-have P (box ∷ boxes) all (suc k) d h =
    corners-have P boxes (λ i e l. all (suc (suc (suc (suc i)))) e (omega arith)) k d (omega arith)

box-reach : (b : Bounds) (box : FineBox) (width : ℕ) (x y : ℤ)
    → Holds b box.x box.y → Holds b (box.x +ℤ box.w) (box.y +ℤ box.h) → InBox x y box → Holds (moved_out width b) x y
box-reach b box width x y first last held = record {
  left = omega (arith, ints, held.left, first.left);
  right = omega (arith, ints, held.right, last.right);
  top = omega (arith, ints, held.top, first.top);
  bottom = omega (arith, ints, held.bottom, last.bottom);
}

some-box-reach : (b : Bounds) (boxes : List FineBox) (width : ℕ) (x y : ℤ)
    → All (λ p. Holds b p.x p.y) (flat_map corners boxes) → InBoxes boxes x y → Holds (moved_out width b) x y
some-box-reach b boxes width x y hold (k, box, less, same, held) =
    let ends = corners-have (λ p. Holds b p.x p.y) boxes hold k box less in
    box-reach b (get_or boxes k box) width x y ends.0 ends.1 (subst (InBox x y) (sym same) held)

boxes-reach : BoundsLaw → (boxes : List FineBox) (width : ℕ) (x y : ℤ) → InBoxes boxes x y
    → IsReached width x y (bounds_of (flat_map corners boxes))
boxes-reach law [] width x y (k, box, less, same, held) = absurd (omega arith)
boxes-reach law (first ∷ boxes) width x y held =
    some-box-reach _ (first ∷ boxes) width x y (law (flat_map corners (first ∷ boxes))) held

-- ---- every shape

pub interior-reach : FillLaw → BoundsLaw → (shape : Shape) (rule : FillRule) (width : ℕ) (x y : ℤ)
    → Interior shape rule x y → IsReached width x y (bounds_of (base_points shape))
interior-reach fill hold (Path outline) rule width x y held = widened_reach width x y _ (fill rule outline x y held)
interior-reach fill hold (Polygon outline) rule width x y held = widened_reach width x y _ (fill rule outline x y held)
interior-reach fill hold (Polyline outline) rule width x y held = widened_reach width x y _ (fill rule outline x y held)
interior-reach fill hold (Line x1 y1 x2 y2) rule width x y held = absurd held
interior-reach fill hold (Rect l t w h rx ry) rule width x y held =
    rect-interior hold (box_of l t w h) rx ry width x y held
interior-reach fill hold (Circle cx cy r) rule width x y held = ellipse-interior hold cx cy r r width x y held
interior-reach fill hold (EllipseOf cx cy rx ry) rule width x y held =
    ellipse-interior hold cx cy rx ry width x y held
interior-reach fill hold (Boxes boxes) rule width x y held = boxes-reach hold boxes width x y held

pub perimeter-reach : StrokeLaw → BoundsLaw → (shape : Shape) (width : ℕ) (ends : Cap) (x y : ℤ)
    → Perimeter shape width ends x y → IsReached width x y (bounds_of (base_points shape))
perimeter-reach stroke hold (Path outline) width ends x y held = stroke outline width ends x y held
perimeter-reach stroke hold (Polygon outline) width ends x y held = stroke outline width ends x y held
perimeter-reach stroke hold (Polyline outline) width ends x y held = stroke outline width ends x y held
perimeter-reach stroke hold (Line x1 y1 x2 y2) width ends x y held =
    stroke (line (point x1 y1) (point x2 y2)) width ends x y held
perimeter-reach stroke hold (Rect l t w h rx ry) width ends x y held =
    rect-perimeter hold (box_of l t w h) rx ry width x y held
perimeter-reach stroke hold (Circle cx cy r) width ends x y held = ellipse-perimeter hold cx cy r r width x y held
perimeter-reach stroke hold (EllipseOf cx cy rx ry) width ends x y held =
    ellipse-perimeter hold cx cy rx ry width x y held
perimeter-reach stroke hold (Boxes boxes) width ends x y held = absurd held
