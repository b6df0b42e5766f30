use Rattle.std.proofs.Common.{arith}
use Rattle.std.proofs.lemmas.Int.{ints, clamps}
use Rattle.svg_shapes.proofs.rect.used_radius.Goals as goal

pub returns-then-other-gt0-clause-within : goal.returns-then-other-gt0-clause-within
returns-then-other-gt0-clause-within c = record { at_least = omega (arith, ints, clamps); at_most = omega (arith, ints, clamps) }
