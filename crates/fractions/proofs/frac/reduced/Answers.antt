use Rattle.std.proofs.Common.{rules, ℤ, pos, ◌<ℤ◌, ◌≤ℤ◌, to_z, of_z, FitsSigned}
use Rattle.std.specs.Prelude.{unsigned_abs}
use Rattle.std.specs.Int.{w128, IsGcd}
use Rattle.std.proofs.lemmas.Int.{to_z-of_z}
use Rattle.fractions.specs.Fraction.{Fraction}
use Rattle.fractions.proofs.FractionLemmas.{gcd_positive, Reduces, Reduces-cancel}
use Rattle.fractions.proofs.frac.reduced.Goals as goal

-- the divisor is positive, also as the code reads it back from its bits
divisor_positive :
    (n d g : ℤ) → FitsSigned w128 n → FitsSigned w128 d → FitsSigned w128 g → pos 0 <ℤ d → pos 0 ≤ℤ g →
    IsGcd (unsigned_abs (to_z w128 (of_z w128 n))) (unsigned_abs (to_z w128 (of_z w128 d))) (unsigned_abs g) →
    pos 0 <ℤ to_z w128 (of_z w128 g)
divisor_positive n d g fn fd fg hd hg greatest =
    rw (to_z-of_z w128 g fg) (gcd_positive n d g hd hg (rw (to_z-of_z w128 n fn, to_z-of_z w128 d fd) at greatest))

pub exact_quotient-requires-clause-positive : goal.exact_quotient-requires-clause-positive
exact_quotient-requires-clause-positive c =
    divisor_positive c.args.n c.args.d c.gcd-divisor.result c.ranges.n c.ranges.d (search rules)
    c.requires.positive c.gcd-divisor.ensures.not_negative c.gcd-divisor.ensures.greatest

pub exact_quotient-requires-clause-divides : goal.exact_quotient-requires-clause-divides
exact_quotient-requires-clause-divides c =
    let fits : FitsSigned w128 c.gcd-divisor.result = search rules in
    rw (to_z-of_z w128 c.gcd-divisor.result fits) c.gcd-divisor.ensures.greatest.0

pub exact_quotient-requires-2-clause-positive : goal.exact_quotient-requires-2-clause-positive
exact_quotient-requires-2-clause-positive c =
    divisor_positive c.args.n c.args.d c.gcd-divisor.result c.ranges.n c.ranges.d (search rules)
    c.requires.positive c.gcd-divisor.ensures.not_negative c.gcd-divisor.ensures.greatest

pub exact_quotient-requires-2-clause-divides : goal.exact_quotient-requires-2-clause-divides
exact_quotient-requires-2-clause-divides c =
    let fits : FitsSigned w128 c.gcd-divisor.result = search rules in
    rw (to_z-of_z w128 c.gcd-divisor.result fits) c.gcd-divisor.ensures.greatest.1

-- the two quotients are the fraction in lowest terms
answer :
    (c : goal.After-exact_quotient-2) →
    Reduces (record { num = to_z w128 (of_z w128 c.exact_quotient.result); den = to_z w128 (of_z w128 c.exact_quotient-2.result) }) c.args.n c.args.d
answer c =
    let fits : FitsSigned w128 c.gcd-divisor.result = search rules in
    let num_fits : FitsSigned w128 c.exact_quotient.result = search rules in
    let den_fits : FitsSigned w128 c.exact_quotient-2.result = search rules in
    let greatest = rw (to_z-of_z w128 c.args.n c.ranges.n, to_z-of_z w128 c.args.d c.ranges.d) at c.gcd-divisor.ensures.greatest in
    let num = rw (to_z-of_z w128 c.gcd-divisor.result fits, to_z-of_z w128 c.args.n c.ranges.n) at c.exact_quotient.ensures in
    let den = rw (to_z-of_z w128 c.gcd-divisor.result fits, to_z-of_z w128 c.args.d c.ranges.d) at c.exact_quotient-2.ensures in
    let f : Fraction = record { num = c.exact_quotient.result; den = c.exact_quotient-2.result } in
    let positive = gcd_positive c.args.n c.args.d c.gcd-divisor.result c.requires.positive c.gcd-divisor.ensures.not_negative greatest in
    rw (to_z-of_z w128 c.exact_quotient.result num_fits, to_z-of_z w128 c.exact_quotient-2.result den_fits)
    (Reduces-cancel f c.args.n c.args.d c.gcd-divisor.result num den c.requires.positive positive greatest)

pub invariant_of-result : goal.invariant_of-result
invariant_of-result c = (answer c).reduced

pub returns-clause-value : goal.returns-clause-value
returns-clause-value c = (answer c).value

pub returns-clause-reduced : goal.returns-clause-reduced
returns-clause-reduced c = (answer c).reduced

pub returns-clause-num_size : goal.returns-clause-num_size
returns-clause-num_size c = (answer c).num_size

pub returns-clause-den_size : goal.returns-clause-den_size
returns-clause-den_size c = (answer c).den_size
