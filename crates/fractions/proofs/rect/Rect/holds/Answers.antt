use Rattle.std.proofs.Common.{arith}
use Rattle.std.proofs.lemmas.Int.{ints}
use Rattle.fractions.proofs.rect.Rect.holds.Goals as goal

pub returns-then-lies_within : goal.returns-then-lies_within
returns-then-lies_within c =
    let across = c.lies_within.ensures.0 c.if-lies_within.true in (
      λ yes.
          let down = c.lies_within-then-lies_within.ensures.0 yes in
          record {
            from_left = omega (arith, ints, across.0);
            before_right = omega (arith, ints, across.1);
            from_top = omega (arith, ints, down.0);
            before_bottom = omega (arith, ints, down.1);
          },
      λ holds. c.lies_within-then-lies_within.ensures.1 (omega (arith, ints, holds.from_top), omega (arith, ints, holds.before_bottom)),
    )
