use Rattle.std.proofs.Common.{lit<, ◌^◌}
use Rattle.std.specs.Int.{w64}
use Rattle.whole_numbers.proofs.Widths.{product-from_bits, width-mul}
use Rattle.poly_shapes.proofs.segment.product.Goals as goal

pub returns-clause-value : goal.returns-clause-value
returns-clause-value c =
    product-from_bits w64 c.args.a c.args.b (2 ^ 27) (2 ^ 29) c.ranges.a c.ranges.b c.requires.a c.requires.b (lit< tt)

pub returns-clause-size : goal.returns-clause-size
returns-clause-size c =
    rw (returns-clause-value c) (width-mul c.args.a c.args.b (2 ^ 27) (2 ^ 29) c.requires.a c.requires.b)
