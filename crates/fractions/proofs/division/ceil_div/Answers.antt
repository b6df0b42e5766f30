use Rattle.std.proofs.lemmas.Int.{to_z-of_z}
use Rattle.std.specs.Int.{w128}
use Rattle.fractions.proofs.DivisionLemmas.{IsCeiling-negated, negated}
use Rattle.fractions.proofs.division.ceil_div.Goals as goal

pub returns-clause-ceiling : goal.returns-clause-ceiling
returns-clause-ceiling c =
    let floor = rw (negated c.args.n c.requires.dividend_size, to_z-of_z w128 c.args.d c.ranges.d) at c.floor_div.ensures.floor in
    rw (negated c.floor_div.result c.floor_div.ensures.size) (IsCeiling-negated c.args.n c.args.d c.floor_div.result floor)
