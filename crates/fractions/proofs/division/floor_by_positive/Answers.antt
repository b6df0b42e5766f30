use Rattle.std.proofs.Common.{rules, ◌≡◌, FitsSigned}
use Rattle.std.specs.Int.{w128, int_div_euclid}
use Rattle.std.proofs.lemmas.Int.{to_z-of_z}
use Rattle.fractions.proofs.DivisionLemmas.{div_euclid-at_most, div_euclid-above, next-mul}
use Rattle.fractions.proofs.division.floor_by_positive.Goals as goal

pub returns-clause-at_most : goal.returns-clause-at_most
returns-clause-at_most c =
    let fits : FitsSigned w128 c.div_euclid.result = search rules in
    let quotient : c.div_euclid.result ≡ int_div_euclid c.args.n c.args.d = rw (to_z-of_z w128 c.args.n c.ranges.n, to_z-of_z w128 c.args.d c.ranges.d) at c.div_euclid.ensures in
    rw (to_z-of_z w128 c.div_euclid.result fits, quotient) (div_euclid-at_most c.args.n c.args.d c.requires.positive)

pub returns-clause-next_above : goal.returns-clause-next_above
returns-clause-next_above c =
    let fits : FitsSigned w128 c.div_euclid.result = search rules in
    let quotient : c.div_euclid.result ≡ int_div_euclid c.args.n c.args.d = rw (to_z-of_z w128 c.args.n c.ranges.n, to_z-of_z w128 c.args.d c.ranges.d) at c.div_euclid.ensures in
    rw (to_z-of_z w128 c.div_euclid.result fits, quotient, next-mul) (div_euclid-above c.args.n c.args.d c.requires.positive)
