use Rattle.std.proofs.Common.{◌≡◌, drop}
use Rattle.poly_shapes.specs.Stroke.{strokes_of}
use Rattle.poly_shapes.proofs.stroke.strokes_of.Given as goal

-- nothing held the point so far
abbrev pub invariant-loop-sub : goal.invariant-loop-sub
invariant-loop-sub l =
    strokes_of l.pen.cap l.pen.width l.at.x l.at.y l.points (drop l.sub-index l.subs)
    ≡ strokes_of l.pen.cap l.pen.width l.at.x l.at.y l.points l.subs
