use Rattle.std.proofs.Common.{lit<, ◌^◌}
use Rattle.std.specs.Int.{w128}
use Rattle.whole_numbers.proofs.Widths.{product-from_bits, width-mul}
use Rattle.affine.proofs.map.times.Goals as goal

pub returns-clause-value : goal.returns-clause-value
returns-clause-value c =
    product-from_bits w128 c.args.a c.args.x (2 ^ 44) (2 ^ 71) c.ranges.a c.ranges.x c.requires.a_size c.requires.x_size (lit< tt)

pub returns-clause-size : goal.returns-clause-size
returns-clause-size c =
    rw (returns-clause-value c) (width-mul c.args.a c.args.x (2 ^ 44) (2 ^ 71) c.requires.a_size c.requires.x_size)
