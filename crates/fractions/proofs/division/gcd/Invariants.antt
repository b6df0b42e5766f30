use Rattle.std.proofs.Common.{ℕ, ◌≤◌, ◌^◌}
use Rattle.std.specs.Prelude.{unsigned_abs}
use Rattle.std.specs.Int.{IsGcd}
use Rattle.fractions.proofs.division.gcd.Given as goal

-- the greatest common divisor stays what it was, and neither number grows past the bound
abbrev pub invariant-loop-y : goal.invariant-loop-y
invariant-loop-y l = record {
  greatest : (g : ℕ) → IsGcd l.x l.y g → IsGcd (unsigned_abs l.fn.a) (unsigned_abs l.fn.b) g;
  first_size : l.x ≤ 2 ^ 126;
  second_size : l.y ≤ 2 ^ 126;
}

abbrev pub decreases-loop-y : goal.decreases-loop-y
decreases-loop-y l = l.y
