use Rattle.std.proofs.Common.{arith}
use Rattle.std.proofs.lemmas.Int.{ints}
use Rattle.corner_shapes.proofs.CurveLemmas.{same_box}
use Rattle.corner_shapes.proofs.rounded.Rounded.inner.Goals as goal

pub returns : goal.returns
returns c =
    same_box (omega (arith, ints)) (omega (arith, ints)) (omega (arith, ints)) (omega (arith, ints)) c.less_borders.ensures
