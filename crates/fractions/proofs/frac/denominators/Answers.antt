use Rattle.std.proofs.Common.{rules, FitsSigned}
use Rattle.std.specs.Int.{w128}
use Rattle.std.proofs.lemmas.Int.{to_z-of_z}
use Rattle.whole_numbers.proofs.Products.{mul-positive}
use Rattle.fractions.proofs.frac.denominators.Goals as goal

pub returns-clause-positive : goal.returns-clause-positive
returns-clause-positive c =
    let first : FitsSigned w128 c.first.inside.den = search rules in
    let second : FitsSigned w128 c.second.inside.den = search rules in
    let fits : FitsSigned w128 c.times.result = search rules in
    let value = rw (to_z-of_z w128 c.first.inside.den first, to_z-of_z w128 c.second.inside.den second) at c.times.ensures.value in
    rw (to_z-of_z w128 c.times.result fits, value)
    (mul-positive c.first.inside.den c.second.inside.den c.first.invariant.positive c.second.invariant.positive)
