use Rattle.std.proofs.Common.{arith, ◌≡◌}
use Rattle.std.specs.Prelude.{unsigned_abs}
use Rattle.std.proofs.lemmas.Int.{ints, to_z-of_z}
use Rattle.std.proofs.lemmas.Nat.Gcd.{same_from_IsGcd}
use Rattle.std.specs.Int.{w128}
use Rattle.affine.specs.Gcd.{gcd, IsGcd-gcd}
use Rattle.affine.proofs.map.divisor.Goals as goal

pub returns-clause-value : goal.returns-clause-value
returns-clause-value c =
    let a = unsigned_abs c.args.a in
    let b = unsigned_abs c.args.b in
    let greatest = rw (to_z-of_z w128 c.args.a c.ranges.a, to_z-of_z w128 c.args.b c.ranges.b) at c.gcd.ensures.greatest in
    let same : unsigned_abs c.gcd.result ≡ gcd (unsigned_abs c.args.a) (unsigned_abs c.args.b) =
    same_from_IsGcd a b (unsigned_abs c.gcd.result) (gcd a b) greatest (IsGcd-gcd a b) in
    omega (arith, ints, same, c.gcd.ensures.not_negative)
