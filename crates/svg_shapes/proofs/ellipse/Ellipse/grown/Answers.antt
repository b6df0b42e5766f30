use Rattle.std.proofs.Common.{arith}
use Rattle.std.proofs.lemmas.Int.{ints}
use Rattle.svg_shapes.proofs.EllipseLemmas.{same_ellipse}
use Rattle.svg_shapes.proofs.ellipse.Ellipse.grown.Goals as goal

pub returns-clause-value : goal.returns-clause-value
returns-clause-value c =
    same_ellipse (omega (arith, ints)) (omega (arith, ints)) (omega (arith, ints)) (omega (arith, ints))
