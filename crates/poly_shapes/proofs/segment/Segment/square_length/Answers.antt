use Rattle.std.proofs.Common.{arith, refl}
use Rattle.poly_shapes.proofs.Widths.{distance-read}
use Rattle.poly_shapes.proofs.segment.Segment.square_length.Goals as goal

pub returns-clause-value : goal.returns-clause-value
returns-clause-value c =
    let s = c.args.self in
    let across = distance-read s.to.x s.from.x c.distance.result (omega arith) (omega arith) c.distance.ensures.value in
    let down = distance-read s.to.y s.from.y c.distance-2.result (omega arith) (omega arith) c.distance-2.ensures.value in
    rw (c.square.ensures.value, c.square-2.ensures.value, across, down) refl
