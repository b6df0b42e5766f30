use Rattle.std.proofs.Common.{arith}
use Rattle.std.proofs.lemmas.Int.{ints}
use Rattle.corner_shapes.proofs.rounded.before.Goals as goal

pub returns-then-at-end-clause-found : goal.returns-then-at-end-clause-found
returns-then-at-end-clause-found c =
    (omega (arith, ints), grind (arith, ints))
