use Rattle.std.proofs.Common.{FitsSigned, IsTrue, ◌↔◌, subst, sym}
use mir.Syntax.{w128}
use Rattle.std.proofs.lemmas.Int.{to_z-of_z}
use Rattle.corner_shapes.specs.declared.rounded.Rounded.{Rounded}
use Rattle.corner_shapes.specs.Curve.{IsMeasured, InRounded}
use Rattle.svg_shapes.specs.Measures.{twice}
use Rattle.svg_shapes.proofs.RectLemmas.{rounded-measured}
use Rattle.svg_shapes.proofs.Twice.{twice-fits}
use Rattle.svg_shapes.proofs.rect.RoundRect.holds.Goals as goal

pub holds-requires : goal.holds-requires
holds-requires c = subst IsMeasured (sym c.rounded.ensures) (rounded-measured c.args.self c.requires.rect)

pub returns : goal.returns
returns c =
    let fits_x : FitsSigned w128 c.args.x = c.ranges.x in
    let fits_y : FitsSigned w128 c.args.y = c.ranges.y in
    let fits_twice_x = twice-fits c.args.x c.requires.x in
    let fits_twice_y = twice-fits c.args.y c.requires.y in
    let tests = simp to_z-of_z at c.holds.ensures.held in
    subst (λ (box : Rounded). IsTrue c.holds.result ↔ InRounded box (twice c.args.x) (twice c.args.y)) c.rounded.ensures tests
