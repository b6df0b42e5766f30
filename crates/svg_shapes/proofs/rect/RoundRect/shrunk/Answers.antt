use Rattle.std.proofs.Common.{arith}
use Rattle.std.proofs.lemmas.Int.{ints, clamps}
use Rattle.svg_shapes.proofs.RectLemmas.{same_rect}
use Rattle.svg_shapes.proofs.rect.RoundRect.shrunk.Goals as goal

pub returns-clause-value : goal.returns-clause-value
returns-clause-value c =
    same_rect (omega (arith, ints, clamps)) (omega (arith, ints, clamps)) (omega (arith, ints, clamps))
    (omega (arith, ints, clamps)) (omega (arith, ints, clamps)) (omega (arith, ints, clamps))

pub returns-clause-within : goal.returns-clause-within
returns-clause-within c = record {
  left = omega (arith, ints, clamps);
  top = omega (arith, ints, clamps);
  right = omega (arith, ints, clamps);
  bottom = omega (arith, ints, clamps);
  rx = record { at_least = omega (arith, ints, clamps); at_most = omega (arith, ints, clamps) };
  ry = record { at_least = omega (arith, ints, clamps); at_most = omega (arith, ints, clamps) };
}
