use Rattle.std.proofs.Common.{◌^◌, Option, IfSome, ap, subst, sym, ◌∙◌}
use Rattle.std.specs.List.{All}
use Rattle.poly_shapes.specs.declared.point.Bounds.{Bounds}
use Rattle.poly_shapes.specs.Outline.{Outline, IsMeasured}
use Rattle.poly_shapes.specs.Extent.{bounds_of, LiesIn, AreSidesWithin}
use Rattle.poly_shapes.proofs.ExtentLemmas.{HoldsPoint, bounds_of-holds, bounds_of-least}
use Rattle.poly_shapes.proofs.NearLemmas.{bounds_of-placed}
use Rattle.poly_shapes.proofs.poly.Poly.bounds.Goals as goal

pub returns-clause-holds : goal.returns-clause-holds
returns-clause-holds c =
    let points = c.args.self.now.points in
    let P : Option Bounds → Type 0 = λ found. IfSome found (λ b. All (HoldsPoint b) points) in
    let kept = c.self.invariant.1 ∙ ap (λ (o : Outline). bounds_of o.points) c.self.view_is in
    subst P (sym kept) (bounds_of-holds points)

pub returns-clause-least : goal.returns-clause-least
returns-clause-least c =
    let points = c.args.self.now.points in
    let P : Option Bounds → Type 0 = λ found.
    IfSome found (λ b. (outer : Bounds) → All (HoldsPoint outer) points → LiesIn b outer) in
    let kept = c.self.invariant.1 ∙ ap (λ (o : Outline). bounds_of o.points) c.self.view_is in
    subst P (sym kept) (bounds_of-least points)

pub returns-clause-near : goal.returns-clause-near
returns-clause-near c =
    let points = c.args.self.now.points in
    let P : Option Bounds → Type 0 = λ found. IfSome found (AreSidesWithin (2 ^ 26)) in
    let kept = c.self.invariant.1 ∙ ap (λ (o : Outline). bounds_of o.points) c.self.view_is in
    let measured = subst IsMeasured c.self.view_is c.self.invariant.0 in
    subst P (sym kept) (bounds_of-placed points measured.placed)
