use Rattle.std.proofs.Common.{arith, ◌≡◌, to_z}
use Rattle.std.specs.Prelude.{unsigned_abs}
use Rattle.std.specs.Int.{w128}
use Rattle.std.proofs.lemmas.Int.{ints, to_z-of_z}
use Rattle.std.proofs.lemmas.Nat.Gcd.{IsGcd-from_zero, IsGcd-from_mod}
use Rattle.fractions.proofs.division.gcd.Goals as goal

pub loop-y-init : goal.loop-y-init
loop-y-init c = record {
  greatest = λ g h. rw (c.unsigned_abs-x.ensures.value, c.unsigned_abs-y.ensures.value) at h;
  first_size = omega (arith, ints);
  second_size = omega (arith, ints);
}

pub loop-y-preserved : goal.loop-y-preserved
loop-y-preserved c = record {
  greatest = λ g h. c.loop-y.invariant.greatest g (IsGcd-from_mod _ _ g h);
  first_size = c.loop-y.invariant.second_size;
  second_size = omega arith;
}

pub returns-clause-greatest : goal.returns-clause-greatest
returns-clause-greatest c =
    let read : unsigned_abs (to_z w128 c.loop-y.x) ≡ c.loop-y.x = omega (arith, ints) in
    let greatest = c.loop-y.invariant.greatest c.loop-y.x (IsGcd-from_zero c.loop-y.x c.loop-y.y (omega arith)) in
    rw read (rw (to_z-of_z w128 c.args.a c.ranges.a, to_z-of_z w128 c.args.b c.ranges.b) at greatest)
