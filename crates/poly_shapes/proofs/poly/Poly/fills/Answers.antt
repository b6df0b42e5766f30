use Rattle.std.proofs.Common.{Option, IsSomeAnd, ap, subst, sym, ◌∙◌}
use Rattle.std.specs.Int.{w128}
use Rattle.std.proofs.lemmas.Int.{to_z-of_z}
use Rattle.poly_shapes.specs.declared.point.Point.{Point}
use Rattle.poly_shapes.specs.declared.point.Bounds.{Bounds}
use Rattle.poly_shapes.specs.Outline.{Outline}
use Rattle.poly_shapes.specs.Extent.{bounds_of, Holds}
use Rattle.poly_shapes.specs.Rectangle.{point}
use Rattle.poly_shapes.proofs.OutsideLemmas.{fills-in_bounds}
use Rattle.poly_shapes.proofs.poly.Poly.fills.Goals as goal

pub returns-else-bounds_hold-clause-value : goal.returns-else-bounds_hold-clause-value
returns-else-bounds_hold-clause-value c =
    let IsIn : Option Bounds → Point → Type 0 = λ found p. IsSomeAnd found (λ b. Holds b p.x p.y) in
    let at = point c.args.x c.args.y in
    let same = rw (to_z-of_z w128 c.args.x c.ranges.x, to_z-of_z w128 c.args.y c.ranges.y) at c.spot.ensures in
    let kept = c.self.invariant.1 ∙ ap (λ (o : Outline). bounds_of o.points) c.self.view_is in
    let shut = c.if-bounds_hold.false in (
      λ t. let no : ⊥ = cc in absurd no,
      λ filled.
          let inside = fills-in_bounds c.args.rule c.args.self.now.points c.args.self.now.subs c.args.x c.args.y filled in
          let here = subst (λ (found : Option Bounds). IsIn found at) (sym kept) inside in
          c.bounds_hold.ensures.1 (subst (IsIn c.self.inside.bounds) (sym same) here),
    )
