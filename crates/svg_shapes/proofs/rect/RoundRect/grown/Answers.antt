use Rattle.std.proofs.Common.{arith}
use Rattle.std.proofs.lemmas.Int.{ints}
use Rattle.svg_shapes.proofs.RectLemmas.{same_rect}
use Rattle.svg_shapes.proofs.rect.RoundRect.grown.Goals as goal

pub returns-clause-value : goal.returns-clause-value
returns-clause-value c =
    same_rect (omega (arith, ints)) (omega (arith, ints)) (omega (arith, ints)) (omega (arith, ints))
    (omega (arith, ints)) (omega (arith, ints))

pub returns-clause-within : goal.returns-clause-within
returns-clause-within c = record {
  left = omega (arith, ints);
  top = omega (arith, ints);
  right = omega (arith, ints);
  bottom = omega (arith, ints);
  rx = record { at_least = omega (arith, ints); at_most = omega (arith, ints) };
  ry = record { at_least = omega (arith, ints); at_most = omega (arith, ints) };
}
