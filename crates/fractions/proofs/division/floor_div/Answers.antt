use Rattle.std.proofs.Common.{rules, FitsSigned, neg_ℤ, arith}
use Rattle.std.specs.Int.{w128}
use Rattle.std.proofs.lemmas.Int.{ints, to_z-of_z}
use Rattle.fractions.proofs.DivisionLemmas.{IsFloor-over_positive, IsFloor-negated, negated}
use Rattle.fractions.proofs.division.floor_div.Goals as goal

pub returns-then-d-lt0-clause-floor : goal.returns-then-d-lt0-clause-floor
returns-then-d-lt0-clause-floor c =
    let n = c.args.n in
    let d = c.args.d in
    let quotient = c.floor_by_positive.result in
    let fits : FitsSigned w128 c.floor_by_positive.result = search rules in
    let at_most = rw (negated c.args.n c.requires.dividend_size, negated c.args.d c.requires.divisor_size) at c.floor_by_positive.ensures.at_most in
    let next_above = rw (negated c.args.n c.requires.dividend_size, negated c.args.d c.requires.divisor_size) at c.floor_by_positive.ensures.next_above in
    rw (to_z-of_z w128 c.floor_by_positive.result fits)
    (IsFloor-negated n d quotient (IsFloor-over_positive (neg_ℤ n) (neg_ℤ d) quotient (omega (arith, ints)) at_most next_above))
