-- The sum fits, since both numbers are within the limits.
use Rattle.std.proofs.Common.{arith, rules}
use Rattle.std.proofs.lemmas.Int.{ints}
use Rattle.box_tree.proofs.piece.is_span_in_range.Goals as goal

pub returns : goal.returns
returns c =
    let from_in = c.if-not-lies_between.ensures.0 (search rules) in
    let side_in = c.if-not-lies_between-2.ensures.0 (search rules) in
    (λ test. record { start = (omega (arith, ints), omega (arith, ints)); length = (omega (arith, ints), omega (arith, ints)); end = grind (arith, ints) }, λ span. grind (arith, ints))
