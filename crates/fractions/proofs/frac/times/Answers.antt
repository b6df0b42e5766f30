use Rattle.std.proofs.Common.{lit<, ◌^◌}
use Rattle.std.specs.Int.{w128}
use Rattle.whole_numbers.proofs.Widths.{product-from_bits, width-mul}
use Rattle.fractions.proofs.frac.times.Goals as goal

pub returns-clause-value : goal.returns-clause-value
returns-clause-value c =
    product-from_bits w128 c.args.a c.args.b (2 ^ 62) (2 ^ 62) c.ranges.a c.ranges.b c.requires.first_size c.requires.second_size (lit< tt)

pub returns-clause-size : goal.returns-clause-size
returns-clause-size c =
    rw (returns-clause-value c) (width-mul c.args.a c.args.b (2 ^ 62) (2 ^ 62) c.requires.first_size c.requires.second_size)
