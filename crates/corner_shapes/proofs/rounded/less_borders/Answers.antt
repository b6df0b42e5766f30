use Rattle.std.proofs.Common.{◌∙◌, ap, FitsSigned, w64, rules}
use Rattle.std.proofs.lemmas.Int.{to_z-of_z}
use Rattle.corner_shapes.specs.declared.radii.Radii.{Radii}
use Rattle.corner_shapes.specs.Curve.{inner_radii}
use Rattle.corner_shapes.proofs.RadiiLemmas.{same_corners}
use Rattle.corner_shapes.proofs.rounded.less_borders.Goals as goal

pub returns : goal.returns
returns c =
    let edges = c.args.edges.now in
    let fits_top : FitsSigned w64 c.args.edges.now.top = search rules in
    let fits_right : FitsSigned w64 c.args.edges.now.right = search rules in
    let fits_bottom : FitsSigned w64 c.args.edges.now.bottom = search rules in
    let fits_left : FitsSigned w64 c.args.edges.now.left = search rules in
    let first = simp to_z-of_z at c.less_border.ensures in
    let second = simp to_z-of_z at c.less_border-2.ensures in
    let third = simp to_z-of_z at c.less_border-3.ensures in
    let fourth = simp to_z-of_z at c.less_border-4.ensures in
    c.of.ensures ∙ same_corners
    (first ∙ ap (λ (r : Radii). inner_radii r edges.left edges.top) c.top_left.ensures)
    (second ∙ ap (λ (r : Radii). inner_radii r edges.right edges.top) c.top_right.ensures)
    (third ∙ ap (λ (r : Radii). inner_radii r edges.right edges.bottom) c.bottom_right.ensures)
    (fourth ∙ ap (λ (r : Radii). inner_radii r edges.left edges.bottom) c.bottom_left.ensures)
