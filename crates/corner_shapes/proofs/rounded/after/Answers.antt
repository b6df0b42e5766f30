use Rattle.std.proofs.Common.{arith}
use Rattle.std.proofs.lemmas.Int.{ints}
use Rattle.corner_shapes.proofs.rounded.after.Goals as goal

pub returns-then-start-at-clause-found : goal.returns-then-start-at-clause-found
returns-then-start-at-clause-found c =
    (omega (arith, ints), grind (arith, ints) steps 30000000)
