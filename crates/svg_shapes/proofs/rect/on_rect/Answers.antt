use Rattle.std.proofs.Common.{FitsSigned, w64, rules, arith, unsigned_abs}
use mir.Syntax.{w128}
use Rattle.std.proofs.lemmas.Int.{ints, to_z-of_z}
use Rattle.svg_shapes.proofs.RectLemmas.{on_rect-by}
use Rattle.svg_shapes.proofs.rect.on_rect.Goals.{then-sides-eq0-via-then-sides-eq0, then-sides-eq0-via-else-sides-eq0+then-sides-eq0-2, then-sides-eq0-via-else-sides-eq0+else-sides-eq0-2+then-width-eq0}
use Rattle.svg_shapes.proofs.rect.on_rect.Goals as goal

pub returns-then-sides-eq0 : goal.returns-then-sides-eq0
returns-then-sides-eq0 c = (
  λ t. let no : ⊥ = cc in absurd no,
  λ h. absurd (elim c.then-sides-eq0.branch [
    | then-sides-eq0-via-then-sides-eq0 w ↦ omega (arith, ints, h.wide, w.if-sides-eq0.true)
    | then-sides-eq0-via-else-sides-eq0+then-sides-eq0-2 w ↦ omega (arith, ints, h.high, w.if-sides-eq0-2.true)
    | then-sides-eq0-via-else-sides-eq0+else-sides-eq0-2+then-width-eq0 w ↦ omega (arith, ints, h.stroked, w.if-width-eq0.true)
  ]),
)

pub returns : goal.returns
returns c =
    let fits_l : FitsSigned w64 c.args.sides.x = search rules in
    let fits_t : FitsSigned w64 c.args.sides.y = search rules in
    let fits_w : FitsSigned w64 c.args.sides.w = search rules in
    let fits_h : FitsSigned w64 c.args.sides.h = search rules in
    let fits_rx : FitsSigned w64 c.args.rx = c.ranges.rx in
    let fits_ry : FitsSigned w64 c.args.ry = c.ranges.ry in
    let fits_x : FitsSigned w128 c.args.x = c.ranges.x in
    let fits_y : FitsSigned w128 c.args.y = c.ranges.y in
    let fits_width : FitsSigned w64 c.args.width = c.ranges.width in
    let made = simp to_z-of_z at c.of.ensures.value in
    let tests = simp to_z-of_z at c.has_in_band.ensures in
    on_rect-by c.args.sides c.args.rx c.args.ry c.of.result (unsigned_abs c.args.width) c.args.x c.args.y c.has_in_band.result
    (omega (arith, ints)) (omega (arith, ints)) (omega (arith, ints)) made tests
