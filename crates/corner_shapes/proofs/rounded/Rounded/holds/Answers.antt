use Rattle.std.proofs.Common.{FitsSigned, IsTrue, ◌↔◌}
use mir.Syntax.{w128}
use Rattle.std.proofs.lemmas.Int.{to_z-of_z}
use Rattle.corner_shapes.specs.Curve.{InRounded}
use Rattle.corner_shapes.proofs.HeldLemmas.{same_test}
use Rattle.corner_shapes.proofs.rounded.Rounded.holds.Goals as goal

pub returns-then-has_between_edges : goal.returns-then-has_between_edges
returns-then-has_between_edges c =
    let fits_x : FitsSigned w128 c.args.x = c.ranges.x in
    let fits_y : FitsSigned w128 c.args.y = c.ranges.y in
    let edges = simp to_z-of_z at c.has_between_edges.ensures in
    let corners = simp to_z-of_z at c.fits_corners.ensures in
    let held : IsTrue c.fits_corners.result ↔ InRounded c.args.self.now c.args.x c.args.y =
    (λ t. record { between = edges.0 c.if-has_between_edges.true; corners = corners.0 t }, λ h. corners.1 h.corners) in
    record { held = held; test = same_test c.fits_corners.result c.args.self.now c.args.x c.args.y held }

pub returns-else-has_between_edges : goal.returns-else-has_between_edges
returns-else-has_between_edges c =
    let fits_x : FitsSigned w128 c.args.x = c.ranges.x in
    let fits_y : FitsSigned w128 c.args.y = c.ranges.y in
    let edges = simp to_z-of_z at c.has_between_edges.ensures in
    let held : IsTrue c.has_between_edges.result ↔ InRounded c.args.self.now c.args.x c.args.y =
    (λ t. let no : ⊥ = cc in absurd no, λ h. edges.1 h.between) in
    record { held = held; test = same_test c.has_between_edges.result c.args.self.now c.args.x c.args.y held }
