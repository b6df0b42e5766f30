-- The numbers of a rect are as they were read.
use Rattle.std.proofs.Common.{rules, sym, subst}
use Rattle.std.specs.Prelude.{◌↔◌, IsTrue}
use Rattle.std.proofs.lemmas.Int.{to_z-of_z}
use mir.Syntax.{w64}
use mir.Val.{SFits}
use Rattle.svg_shapes.specs.declared.shape.Shape.{Shape}
use Rattle.svg_shapes.specs.Shapes.{IsMeasured}
use Rattle.svg_shapes.proofs.shape.Shape.in_range.Goals as goal

pub returns-in-Rect : goal.returns-in-Rect
returns-in-Rect c =
    let x_fits : SFits w64 c.in-Rect.x = search rules in
    let y_fits : SFits w64 c.in-Rect.y = search rules in
    let w_fits : SFits w64 c.in-Rect.w = search rules in
    let h_fits : SFits w64 c.in-Rect.h = search rules in
    let rx_fits : SFits w64 c.in-Rect.rx = search rules in
    let ry_fits : SFits w64 c.in-Rect.ry = search rules in
    let tests = simp to_z-of_z at c.is_rect_measured.ensures in
    subst (λ (shape : Shape). IsTrue c.is_rect_measured.result ↔ IsMeasured shape) (sym c.in-Rect.is) tests
