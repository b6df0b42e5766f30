-- The tests of what a shape holds are true exactly where the shape holds the point: each of their parts decides a part.
use Rattle.std.proofs.Common.{◌≡◌, ℕ, ◌%◌, ◌<◌, ℤ, pos, ◌+ℤ◌, ◌<ℤ◌, Bool, false, Decides, IsTrue, ◌↔◌, List}
use Rattle.std.specs.Prelude.{not, ◌&&◌, nat_lt, int_le, int_lt}
use Rattle.std.specs.Ordering.{int_eq}
use Rattle.std.proofs.lemmas.Bool.{false≢true, leb-true, le-leb}
use Rattle.std.proofs.lemmas.Bool.Decides.{Decides-and, Decides-not, Decides-ltb, Decides-eqb, Decides-int_eq, same_from_decides}
use Rattle.std.proofs.lemmas.List.Folds.{Any-from_list_any, list_any-from_Any}
use Rattle.corner_shapes.specs.Held.{ellipse_holds}
use Rattle.corner_shapes.proofs.HeldLemmas.{le-decides, lt-decides, in_rounded-decides}
use Rattle.poly_shapes.specs.declared.segment.Segment.{Segment}
use Rattle.poly_shapes.specs.declared.point.FillRule.{FillRule}
use Rattle.poly_shapes.specs.declared.point.FillRule.TheVariants.{NonZero, EvenOdd}
use Rattle.poly_shapes.specs.declared.point.Cap.{Cap}
use Rattle.poly_shapes.specs.Outline.{edges}
use Rattle.poly_shapes.specs.Fill.{winding, crossings, Fills}
use Rattle.svg_shapes.specs.declared.boxes.FineBox.{FineBox}
use Rattle.svg_shapes.specs.declared.rect.RoundRect.{RoundRect}
use Rattle.svg_shapes.specs.declared.ellipse.Ellipse.{Ellipse as Oval}
use Rattle.svg_shapes.specs.declared.shape.Shape.{Shape}
use Rattle.svg_shapes.specs.declared.shape.Shape.TheVariants.{Path, Polygon, Polyline, Line, Rect, Circle, Ellipse, Boxes}
use Rattle.svg_shapes.specs.Measures.{twice}
use Rattle.svg_shapes.specs.Rects.{rect_of, rounded, grown_rect, shrunk_rect, RectHolds, InRect, RectBandHolds, OnRect}
use Rattle.svg_shapes.specs.Ellipses.{ellipse_of, grown_ellipse, shrunk_ellipse, InEllipse, OnEllipse}
use Rattle.svg_shapes.specs.Boxes.{InBox, InBoxes}
use Rattle.svg_shapes.specs.Shapes.{box_of, Interior, Perimeter}
use Rattle.svg_shapes.specs.Held.{is_filled, are_positive, rect_holds, is_in_rect, rect_band_holds, is_on_rect, is_in_ellipse, ellipse_band_holds, is_on_ellipse, is_in_box, is_in_boxes, is_in_interior, is_on_perimeter}

filled-decides : (rule : FillRule) (segments : List Segment) (x y : ℤ) → Decides (is_filled rule segments x y) (Fills rule segments x y)
filled-decides NonZero segments x y = Decides-not (int_eq (winding segments x y) (pos 0)) (Decides-int_eq (winding segments x y) (pos 0))
filled-decides EvenOdd segments x y = Decides-eqb (crossings segments x y % 2) 1

positive-decides : (across down : ℤ) → Decides (are_positive across down) (pos 0 <ℤ across × pos 0 <ℤ down)
positive-decides across down = Decides-and (int_lt (pos 0) across) (int_lt (pos 0) down) (lt-decides (pos 0) across) (lt-decides (pos 0) down)

-- the same under a stroke that has a width
stroked-decides : (across down : ℤ) (width : ℕ) → Decides (are_positive across down && nat_lt 0 width) ((pos 0 <ℤ across × pos 0 <ℤ down) × (0 < width))
stroked-decides across down width = Decides-and (are_positive across down) (nat_lt 0 width) (positive-decides across down) (Decides-ltb 0 width)

-- what one shape holds and another doesn't
band-decides : {P Q : Type 0} (outer inner : Bool) → Decides outer P → Decides inner Q → Decides (outer && not inner) (P × (Q → ⊥))
band-decides outer inner p q = Decides-and outer (not inner) p (Decides-not inner q)

rect_holds-decides : (rect : RoundRect) (x y : ℤ) → Decides (rect_holds rect x y) (RectHolds rect x y)
rect_holds-decides rect x y = in_rounded-decides (rounded rect) (twice x) (twice y)

in_rect-decides : (box : FineBox) (rx ry x y : ℤ) → Decides (is_in_rect box rx ry x y) (InRect box rx ry x y)
in_rect-decides box rx ry x y =
    let rect = rect_of box rx ry in
    let both = Decides-and (are_positive box.w box.h) (rect_holds rect x y) (positive-decides box.w box.h) (rect_holds-decides rect x y) in (
      λ t. let is = both.0 t in record { wide = is.0.0; high = is.0.1; inside = is.1 },
      λ h. both.1 ((h.wide, h.high), h.inside),
    )

rect_band-decides : (width : ℕ) (rect : RoundRect) (x y : ℤ) → Decides (rect_band_holds width rect x y) (RectBandHolds width rect x y)
rect_band-decides width rect x y =
    let grown = grown_rect width rect in
    let shrunk = shrunk_rect width rect in
    let both = band-decides (rect_holds grown x y) (rect_holds shrunk x y) (rect_holds-decides grown x y) (rect_holds-decides shrunk x y) in (
      λ t. let is = both.0 t in record { within = is.0; beyond = is.1 },
      λ h. both.1 (h.within, h.beyond),
    )

on_rect-decides : (box : FineBox) (rx ry : ℤ) (width : ℕ) (x y : ℤ) → Decides (is_on_rect box rx ry width x y) (OnRect box rx ry width x y)
on_rect-decides box rx ry width x y =
    let rect = rect_of box rx ry in
    let both = Decides-and (are_positive box.w box.h && nat_lt 0 width) (rect_band_holds width rect x y) (stroked-decides box.w box.h width) (rect_band-decides width rect x y) in (
      λ t. let is = both.0 t in record { wide = is.0.0.0; high = is.0.0.1; stroked = is.0.1; band = is.1 },
      λ h. both.1 (((h.wide, h.high), h.stroked), h.band),
    )

in_ellipse-decides : (e : Oval) (x y : ℤ) → Decides (is_in_ellipse e x y) (InEllipse e x y)
in_ellipse-decides e x y =
    let held = ellipse_holds e.cx e.cy (record { x = e.rx; y = e.ry }) (twice x) (twice y) in
    let both = Decides-and (are_positive e.rx e.ry) held (positive-decides e.rx e.ry) (leb-true _ _, le-leb _ _) in (
      λ t. let is = both.0 t in record { wide = is.0.0; high = is.0.1; inside = is.1 },
      λ h. both.1 ((h.wide, h.high), h.inside),
    )

on_ellipse-decides : (e : Oval) (width : ℕ) (x y : ℤ) → Decides (is_on_ellipse e width x y) (OnEllipse e width x y)
on_ellipse-decides e width x y =
    let grown = grown_ellipse width e in
    let shrunk = shrunk_ellipse width e in
    let band = band-decides (is_in_ellipse grown x y) (is_in_ellipse shrunk x y) (in_ellipse-decides grown x y) (in_ellipse-decides shrunk x y) in
    let both = Decides-and (are_positive e.rx e.ry && nat_lt 0 width) (ellipse_band_holds width e x y) (stroked-decides e.rx e.ry width) band in (
      λ t. let is = both.0 t in record { wide = is.0.0.0; high = is.0.0.1; stroked = is.0.1; within = is.1.0; beyond = is.1.1 },
      λ h. both.1 (((h.wide, h.high), h.stroked), (h.within, h.beyond)),
    )

in_box-decides : (x y : ℤ) (box : FineBox) → Decides (is_in_box x y box) (InBox x y box)
in_box-decides x y box =
    let right = box.x +ℤ box.w in
    let bottom = box.y +ℤ box.h in
    let across = Decides-and (int_le box.x x) (int_lt x right) (le-decides box.x x) (lt-decides x right) in
    let down = Decides-and (int_le box.y y) (int_lt y bottom) (le-decides box.y y) (lt-decides y bottom) in
    let both = Decides-and (int_le box.x x && int_lt x right) (int_le box.y y && int_lt y bottom) across down in (
      λ t. let is = both.0 t in record { left = is.0.0; right = is.0.1; top = is.1.0; bottom = is.1.1 },
      λ h. both.1 ((h.left, h.right), (h.top, h.bottom)),
    )

in_boxes-decides : (boxes : List FineBox) (x y : ℤ) → Decides (is_in_boxes boxes x y) (InBoxes boxes x y)
in_boxes-decides boxes x y = (
  λ t. let found = Any-from_list_any (is_in_box x y) boxes t in
      (found.0, found.1, found.2, found.3, (in_box-decides x y found.1).0 found.4),
  λ h. list_any-from_Any (is_in_box x y) boxes (h.0, h.1, h.2, h.3, (in_box-decides x y h.1).1 h.4),
)

none-decides : Decides false ⊥
none-decides = (λ t. absurd (false≢true t), λ no. absurd no)

interior-decides : (shape : Shape) (rule : FillRule) (x y : ℤ) → Decides (is_in_interior shape rule x y) (Interior shape rule x y)
unfolding is_in_interior
interior-decides (Path outline) rule x y = filled-decides rule (edges outline) x y
interior-decides (Polygon outline) rule x y = filled-decides rule (edges outline) x y
interior-decides (Polyline outline) rule x y = filled-decides rule (edges outline) x y
interior-decides (Line x1 y1 x2 y2) rule x y = none-decides
interior-decides (Rect left top w h rx ry) rule x y = in_rect-decides (box_of left top w h) rx ry x y
interior-decides (Circle cx cy r) rule x y = in_ellipse-decides (ellipse_of cx cy r r) x y
interior-decides (Ellipse cx cy rx ry) rule x y = in_ellipse-decides (ellipse_of cx cy rx ry) x y
interior-decides (Boxes boxes) rule x y = in_boxes-decides boxes x y

perimeter-decides : (shape : Shape) (width : ℕ) (ends : Cap) (x y : ℤ) → Decides (is_on_perimeter shape width ends x y) (Perimeter shape width ends x y)
unfolding is_on_perimeter
perimeter-decides (Path outline) width ends x y = (λ t. t, λ h. h)
perimeter-decides (Polygon outline) width ends x y = (λ t. t, λ h. h)
perimeter-decides (Polyline outline) width ends x y = (λ t. t, λ h. h)
perimeter-decides (Line x1 y1 x2 y2) width ends x y = (λ t. t, λ h. h)
perimeter-decides (Rect left top w h rx ry) width ends x y = on_rect-decides (box_of left top w h) rx ry width x y
perimeter-decides (Circle cx cy r) width ends x y = on_ellipse-decides (ellipse_of cx cy r r) width x y
perimeter-decides (Ellipse cx cy rx ry) width ends x y = on_ellipse-decides (ellipse_of cx cy rx ry) width x y
perimeter-decides (Boxes boxes) width ends x y = none-decides

-- what is true exactly where the interior, or the perimeter, holds the point is the test
pub same_interior : (r : Bool) (shape : Shape) (rule : FillRule) (x y : ℤ) → IsTrue r ↔ Interior shape rule x y → r ≡ is_in_interior shape rule x y
same_interior r shape rule x y is = same_from_decides r (is_in_interior shape rule x y) is (interior-decides shape rule x y)

pub same_perimeter : (r : Bool) (shape : Shape) (width : ℕ) (ends : Cap) (x y : ℤ) → IsTrue r ↔ Perimeter shape width ends x y → r ≡ is_on_perimeter shape width ends x y
same_perimeter r shape width ends x y is = same_from_decides r (is_on_perimeter shape width ends x y) is (perimeter-decides shape width ends x y)
