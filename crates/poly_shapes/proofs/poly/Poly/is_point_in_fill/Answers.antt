use Rattle.std.proofs.Common.{FitsSigned, subst}
use mir.Syntax.{w128}
use Rattle.std.proofs.lemmas.Int.{to_z-of_z}
use Rattle.poly_shapes.specs.Outline.{IsMeasured}
use Rattle.poly_shapes.proofs.NearLemmas.{filled-near}
use Rattle.poly_shapes.proofs.poly.Poly.is_point_in_fill.Goals as goal

pub returns-else-is_near : goal.returns-else-is_near
returns-else-is_near c =
    let fits_x : FitsSigned w128 c.args.x = c.ranges.x in
    let fits_y : FitsSigned w128 c.args.y = c.ranges.y in
    let near = simp to_z-of_z at c.is_near.ensures in
    let measured = subst IsMeasured c.self.view_is c.self.invariant.0 in (
      λ t. let no : ⊥ = cc in absurd no,
      λ filled. near.1 (filled-near c.args.rule c.args.self.now c.args.x c.args.y measured.placed filled),
    )
