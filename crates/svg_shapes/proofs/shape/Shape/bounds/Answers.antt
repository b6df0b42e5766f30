use Rattle.std.proofs.Common.{Some, None, FitsSigned, w64, arith, subst, sym, refl, ◌∙◌, unsigned_abs, ◌^◌}
use Rattle.std.proofs.lemmas.Int.{ints, to_z-of_z}
use Rattle.poly_shapes.specs.declared.point.Bounds.{Bounds}
use Rattle.poly_shapes.specs.Extent.{Holds, AreSidesWithin}
use Rattle.svg_shapes.proofs.ExtentLemmas.{disabled, moved-near}
use Rattle.svg_shapes.proofs.ReachLemmas.{IsReached, interior-reach, perimeter-reach}
use Rattle.svg_shapes.proofs.shape.Shape.bounds.Goals as goal

pub returns-in-Some-clause-interior : goal.returns-in-Some-clause-interior
returns-in-Some-clause-interior c = λ rule x y held.
    let width = unsigned_abs c.args.width in
    let fits_width : FitsSigned w64 c.args.width = c.ranges.width in
    let reached = interior-reach c.no_fill_reaches_out_of_the_bounds.ensures c.bounds_hold_their_points.ensures
    c.args.self.now rule width x y held in
    let here : IsReached width x y (Some c.in-Some.extent) =
    subst (IsReached width x y) (sym c.extent.ensures.value ∙ c.in-Some.is) reached in
    let moved = simp to_z-of_z at c.moved_out.ensures in
    subst (λ (b : Bounds). Holds b x y) (sym moved) here

pub returns-in-Some-clause-perimeter : goal.returns-in-Some-clause-perimeter
returns-in-Some-clause-perimeter c = λ ends x y held.
    let width = unsigned_abs c.args.width in
    let fits_width : FitsSigned w64 c.args.width = c.ranges.width in
    let reached = perimeter-reach c.no_stroke_reaches_out_of_the_moved_bounds.ensures c.bounds_hold_their_points.ensures
    c.args.self.now width ends x y held in
    let here : IsReached width x y (Some c.in-Some.extent) =
    subst (IsReached width x y) (sym c.extent.ensures.value ∙ c.in-Some.is) reached in
    let moved = simp to_z-of_z at c.moved_out.ensures in
    subst (λ (b : Bounds). Holds b x y) (sym moved) here

pub returns-in-Some-clause-near : goal.returns-in-Some-clause-near
returns-in-Some-clause-near c =
    let width = unsigned_abs c.args.width in
    let fits_width : FitsSigned w64 c.args.width = c.ranges.width in
    let moved = simp to_z-of_z at c.moved_out.ensures in
    subst (AreSidesWithin (2 ^ 28)) (sym moved)
    (moved-near c.in-Some.extent width (omega (arith, ints)) c.in-Some.ensures.near)

pub returns-in-None-clause-absent : goal.returns-in-None-clause-absent
returns-in-None-clause-absent c =
    (λ t. disabled c.args.self.now c.requires.shape (sym c.extent.ensures.value ∙ c.in-None.is), λ h. refl)

pub returns-in-None-clause-perimeter : goal.returns-in-None-clause-perimeter
returns-in-None-clause-perimeter c = λ ends x y held.
    let width = unsigned_abs c.args.width in
    let reached = perimeter-reach c.no_stroke_reaches_out_of_the_moved_bounds.ensures c.bounds_hold_their_points.ensures
    c.args.self.now width ends x y held in
    let no : IsReached width x y None = subst (IsReached width x y) (sym c.extent.ensures.value ∙ c.in-None.is) reached in
    no
