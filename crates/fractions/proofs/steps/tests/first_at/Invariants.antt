use Rattle.std.proofs.Common.{◌≡◌, ◌+◌}
use Rattle.fractions.proofs.steps.tests.first_at.Given as goal

abbrev pub invariant-loop-i : goal.invariant-loop-i
invariant-loop-i g l = l.steps ≡ l.initial.steps + l.i
