use Rattle.std.proofs.Common.{FitsSigned, w64, rules, IsTrue, ◌↔◌, subst, sym, unsigned_abs}
use mir.Syntax.{w128}
use Rattle.std.proofs.lemmas.Int.{to_z-of_z}
use Rattle.svg_shapes.specs.declared.shape.Shape.{Shape}
use Rattle.svg_shapes.specs.declared.ellipse.Ellipse.{Ellipse}
use Rattle.svg_shapes.specs.Ellipses.{OnEllipse}
use Rattle.svg_shapes.specs.Shapes.{Perimeter}
use Rattle.svg_shapes.proofs.shape.Shape.has_on_perimeter.Goals as goal

pub returns-in-Rect : goal.returns-in-Rect
returns-in-Rect c =
    let fits_l : FitsSigned w64 c.in-Rect.l = search rules in
    let fits_t : FitsSigned w64 c.in-Rect.t = search rules in
    let fits_w : FitsSigned w64 c.in-Rect.w = search rules in
    let fits_h : FitsSigned w64 c.in-Rect.h = search rules in
    let fits_rx : FitsSigned w64 c.in-Rect.rx = search rules in
    let fits_ry : FitsSigned w64 c.in-Rect.ry = search rules in
    let fits_at_x : FitsSigned w128 c.args.x = c.ranges.x in
    let fits_at_y : FitsSigned w128 c.args.y = c.ranges.y in
    let fits_width : FitsSigned w64 c.args.width = c.ranges.width in
    let width = unsigned_abs c.args.width in
    let tests = simp to_z-of_z at c.on_rect.ensures in
    let r = c.on_rect.result in
    subst (λ (shape : Shape). IsTrue r ↔ Perimeter shape width c.args.cap c.args.x c.args.y) (sym c.in-Rect.is) tests

pub returns-in-Circle : goal.returns-in-Circle
returns-in-Circle c =
    let fits_cx : FitsSigned w64 c.in-Circle.cx = search rules in
    let fits_cy : FitsSigned w64 c.in-Circle.cy = search rules in
    let fits_r : FitsSigned w64 c.in-Circle.r = search rules in
    let fits_at_x : FitsSigned w128 c.args.x = c.ranges.x in
    let fits_at_y : FitsSigned w128 c.args.y = c.ranges.y in
    let fits_width : FitsSigned w64 c.args.width = c.ranges.width in
    let width = unsigned_abs c.args.width in
    let made = simp to_z-of_z at c.of.ensures.value in
    let tests = simp to_z-of_z at c.has_in_band.ensures in
    let r = c.has_in_band.result in
    subst (λ (shape : Shape). IsTrue r ↔ Perimeter shape width c.args.cap c.args.x c.args.y) (sym c.in-Circle.is)
    (subst (λ (e : Ellipse). IsTrue r ↔ OnEllipse e width c.args.x c.args.y) made tests)

pub returns-in-Ellipse : goal.returns-in-Ellipse
returns-in-Ellipse c =
    let fits_cx : FitsSigned w64 c.in-Ellipse.cx = search rules in
    let fits_cy : FitsSigned w64 c.in-Ellipse.cy = search rules in
    let fits_rx : FitsSigned w64 c.in-Ellipse.rx = search rules in
    let fits_ry : FitsSigned w64 c.in-Ellipse.ry = search rules in
    let fits_at_x : FitsSigned w128 c.args.x = c.ranges.x in
    let fits_at_y : FitsSigned w128 c.args.y = c.ranges.y in
    let fits_width : FitsSigned w64 c.args.width = c.ranges.width in
    let width = unsigned_abs c.args.width in
    let made = simp to_z-of_z at c.of-in-Ellipse.ensures.value in
    let tests = simp to_z-of_z at c.has_in_band-in-Ellipse.ensures in
    let r = c.has_in_band-in-Ellipse.result in
    subst (λ (shape : Shape). IsTrue r ↔ Perimeter shape width c.args.cap c.args.x c.args.y) (sym c.in-Ellipse.is)
    (subst (λ (e : Ellipse). IsTrue r ↔ OnEllipse e width c.args.x c.args.y) made tests)
