use Rattle.std.proofs.Common.{arith}
use Rattle.poly_shapes.proofs.ExtentLemmas.{not_before-read}
use Rattle.poly_shapes.proofs.bounds.is_not_before.Goals as goal

pub returns : goal.returns
returns c =
    not_before-read c.args.least c.args.at c.from.result c.from-2.result c.from-3.result c.args.width
    c.ranges.least c.ranges.at (omega arith) c.from.ensures c.from-2.ensures c.from-3.ensures
