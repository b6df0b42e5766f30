use Rattle.std.proofs.Common.{FitsSigned, w64, rules, arith, unsigned_abs, subst, sym}
use mir.Syntax.{w128}
use Rattle.std.proofs.lemmas.Int.{ints, to_z-of_z}
use Rattle.svg_shapes.specs.declared.ellipse.Ellipse.{Ellipse}
use Rattle.svg_shapes.specs.Ellipses.{InEllipse}
use Rattle.svg_shapes.proofs.EllipseLemmas.{in_band-by}
use Rattle.svg_shapes.proofs.ellipse.Ellipse.has_in_band.Goals.{then-self-le0-via-then-self-le0, then-self-le0-via-else-self-le0+then-self-le0-2, then-self-le0-via-else-self-le0+else-self-le0-2+then-width-eq0}
use Rattle.svg_shapes.proofs.ellipse.Ellipse.has_in_band.Goals as goal

pub returns-then-self-le0 : goal.returns-then-self-le0
returns-then-self-le0 c = (
  λ t. let no : ⊥ = cc in absurd no,
  λ h. absurd (elim c.then-self-le0.branch [
    | then-self-le0-via-then-self-le0 w ↦ omega (arith, ints, h.wide, w.if-self-le0.true)
    | then-self-le0-via-else-self-le0+then-self-le0-2 w ↦ omega (arith, ints, h.high, w.if-self-le0-2.true)
    | then-self-le0-via-else-self-le0+else-self-le0-2+then-width-eq0 w ↦ omega (arith, ints, h.stroked, w.if-width-eq0.true)
  ]),
)

pub returns-then-holds : goal.returns-then-holds
returns-then-holds c =
    let fits_cx : FitsSigned w64 c.args.self.cx = search rules in
    let fits_cy : FitsSigned w64 c.args.self.cy = search rules in
    let fits_rx : FitsSigned w64 c.args.self.rx = search rules in
    let fits_ry : FitsSigned w64 c.args.self.ry = search rules in
    let fits_width : FitsSigned w64 c.args.width = c.ranges.width in
    let fits_x : FitsSigned w128 c.args.x = c.ranges.x in
    let fits_y : FitsSigned w128 c.args.y = c.ranges.y in
    let outer = simp to_z-of_z at c.grown.ensures.value in
    let inner = simp to_z-of_z at c.shrunk.ensures.value in
    let within = simp to_z-of_z at (c.holds.ensures.0 c.if-holds.true) in
    let tests = simp to_z-of_z at c.holds-then-holds.ensures in
    in_band-by c.args.self c.grown.result c.shrunk.result (unsigned_abs c.args.width) c.args.x c.args.y c.holds-then-holds.result
    (omega (arith, ints)) (omega (arith, ints)) (omega (arith, ints)) outer inner within tests

pub returns-else-holds : goal.returns-else-holds
returns-else-holds c =
    let fits_cx : FitsSigned w64 c.args.self.cx = search rules in
    let fits_cy : FitsSigned w64 c.args.self.cy = search rules in
    let fits_rx : FitsSigned w64 c.args.self.rx = search rules in
    let fits_ry : FitsSigned w64 c.args.self.ry = search rules in
    let fits_width : FitsSigned w64 c.args.width = c.ranges.width in
    let fits_x : FitsSigned w128 c.args.x = c.ranges.x in
    let fits_y : FitsSigned w128 c.args.y = c.ranges.y in
    let outer = simp to_z-of_z at c.grown.ensures.value in
    let tests = simp to_z-of_z at c.holds.ensures in (
      λ t. let no : ⊥ = cc in absurd no,
      λ h. tests.1 (subst (λ (g : Ellipse). InEllipse g c.args.x c.args.y) (sym outer) h.within),
    )
