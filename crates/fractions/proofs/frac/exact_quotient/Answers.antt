use Rattle.std.specs.Int.{w128}
use Rattle.std.proofs.lemmas.Int.{quot_is, quot_fits}
use Rattle.fractions.proofs.FractionLemmas.{int_div-exact}
use Rattle.fractions.proofs.frac.exact_quotient.Goals as goal

pub returns : goal.returns
returns c =
    let fits = quot_fits w128 c.args.n c.args.by c.ranges.n c.requires.positive in
    rw (quot_is w128 c.args.n c.args.by c.ranges.n c.ranges.by fits) (int_div-exact c.args.n c.args.by c.requires.divides)
