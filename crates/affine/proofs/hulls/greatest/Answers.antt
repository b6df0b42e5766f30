use Rattle.std.proofs.Common.{arith}
use Rattle.std.proofs.lemmas.Int.{ints, clamps}
use Rattle.affine.proofs.hulls.greatest.Goals as goal

pub returns-clause-size : goal.returns-clause-size
returns-clause-size c = omega (arith, ints, clamps, c.max.ensures.value, c.max-2.ensures.value, c.max-3.ensures.value)
