use Rattle.std.proofs.Common.{arith}
use Rattle.std.proofs.lemmas.Int.{ints, clamps}
use Rattle.affine.proofs.hulls.least.Goals as goal

pub returns-clause-size : goal.returns-clause-size
returns-clause-size c = omega (arith, ints, clamps, c.min.ensures.value, c.min-2.ensures.value, c.min-3.ensures.value)
