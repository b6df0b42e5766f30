use Rattle.std.proofs.Common.{rules, ◌*ℤ◌, FitsSigned}
use Rattle.std.specs.Int.{w128}
use Rattle.std.specs.Cmp.{int_ranked}
use Rattle.std.proofs.lemmas.Int.{to_z-of_z}
use Rattle.fractions.proofs.frac.Frac.cmp.Goals as goal

pub returns : goal.returns
returns c =
    let first : FitsSigned w128 c.crosswise.result = search rules in
    let second : FitsSigned w128 c.crosswise-2.result = search rules in
    let order = rw (to_z-of_z w128 c.crosswise.result first, to_z-of_z w128 c.crosswise-2.result second, c.crosswise.ensures.value, c.crosswise-2.ensures.value) at c.cmp.ensures in
    int_ranked (c.args.self.now.num *ℤ c.args.other.now.den) (c.args.other.now.num *ℤ c.args.self.now.den) c.cmp.result order
