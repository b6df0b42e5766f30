use Rattle.std.proofs.Common.{arith}
use Rattle.poly_shapes.proofs.ExtentLemmas.{not_beyond-read}
use Rattle.poly_shapes.proofs.bounds.is_not_beyond.Goals as goal

pub returns : goal.returns
returns c =
    not_beyond-read c.args.most c.args.at c.from-2.result c.from-3.result c.from.result c.args.width
    c.ranges.most c.ranges.at (omega arith) c.from-2.ensures c.from-3.ensures c.from.ensures
