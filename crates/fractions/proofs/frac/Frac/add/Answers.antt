use Rattle.std.proofs.Common.{rules, arith, ◌≡◌, ◌+ℤ◌, to_z, of_z, FitsSigned}
use Rattle.std.specs.Int.{w128}
use Rattle.std.proofs.lemmas.Int.{ints, to_z-of_z}
use Rattle.fractions.proofs.frac.Frac.add.Goals as goal

pub overflow_add-first : goal.overflow_add-first
overflow_add-first c = omega (arith, ints, c.crosswise-first.ensures.size, c.crosswise-second.ensures.size)

pub returns-clause-value : goal.returns-clause-value
returns-clause-value c =
    let first = c.crosswise-first.result in
    let second = c.crosswise-second.result in
    let sum : to_z w128 (of_z w128 (to_z w128 (of_z w128 c.crosswise-first.result) +ℤ to_z w128 (of_z w128 c.crosswise-second.result))) ≡ c.crosswise-first.result +ℤ c.crosswise-second.result =
    omega (arith, ints, c.crosswise-first.ensures.size, c.crosswise-second.ensures.size) in
    let fits : FitsSigned w128 c.denominators.result = search rules in
    rw (sum, to_z-of_z w128 c.denominators.result fits, c.crosswise-first.ensures.value, c.crosswise-second.ensures.value, c.denominators.ensures.value) at c.make.ensures.value
