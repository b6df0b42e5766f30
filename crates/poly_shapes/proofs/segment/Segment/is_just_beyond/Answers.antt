use Rattle.std.proofs.Common.{◌∙◌, refl}
use Rattle.poly_shapes.proofs.Widths.{just_beyond-read}
use Rattle.poly_shapes.proofs.segment.Segment.is_just_beyond.Goals as goal

pub returns-then-end-along : goal.returns-then-end-along
returns-then-end-along c =
    c.is_within_half.ensures
    ∙ just_beyond-read c.args.width c.square_length-square_length.result c.unsigned_abs.result c.along-along.result
    c.square_length-square_length.ensures.size c.along-along.ensures.size c.if-end-along.true c.unsigned_abs.ensures.value
    ∙ rw (c.square_length-square_length.ensures.value, c.along-along.ensures.value) refl
