use Rattle.std.proofs.Common.{Option, IsSomeAnd, IsTrue, ap, subst, sym, ◌∙◌}
use Rattle.poly_shapes.specs.declared.point.Bounds.{Bounds}
use Rattle.poly_shapes.specs.Outline.{Outline}
use Rattle.poly_shapes.specs.Extent.{bounds_of, Holds, moved_out}
use Rattle.poly_shapes.specs.Stroke.{strokes_of}
use Rattle.poly_shapes.proofs.DrawnLemmas.{strokes-in_bounds, false_unless}
use Rattle.poly_shapes.proofs.poly.Poly.is_stroked.Goals as goal

pub returns-else-reach_holds-clause-value : goal.returns-else-reach_holds-clause-value
returns-else-reach_holds-clause-value c =
    let pen = c.args.pen in
    let at = c.args.at in
    let value = c.args.self.now in
    let IsIn : Option Bounds → Type 0 = λ found. IsSomeAnd found (λ b. Holds (moved_out pen.width b) at.x at.y) in
    let kept = c.self.invariant.1 ∙ ap (λ (o : Outline). bounds_of o.points) c.self.view_is in
    let shut = c.if-reach_holds.false in
    shut ∙ false_unless (strokes_of pen.cap pen.width at.x at.y value.points value.subs) (λ e.
    let inside = strokes-in_bounds pen.cap pen.width at.x at.y value.points value.subs e in
    let open_too : IsTrue c.reach_holds.result = c.reach_holds.ensures.1 (subst IsIn (sym kept) inside) in
    let no : ⊥ = cc in no)
