use Rattle.std.proofs.Common.{arith, length}
use Rattle.poly_shapes.proofs.OutlineLemmas.{tiled-within}
use Rattle.poly_shapes.proofs.stroke.strokes_of.Goals as goal

pub points_of-requires : goal.points_of-requires
points_of-requires c =
    tiled-within 0 (length c.args.points.now) c.args.subs.now c.loop-sub.sub-index _ c.requires.outline.tiled (omega arith)
