use Rattle.std.proofs.Common.{◌≡◌, drop}
use Rattle.poly_shapes.specs.Segments.{IsPlaced}
use Rattle.poly_shapes.specs.Stroke.{lines_from, line_holds}
use Rattle.poly_shapes.proofs.stroke.line_holds.Given as goal

-- nothing held the point so far
abbrev pub invariant-loop-to : goal.invariant-loop-to
invariant-loop-to l = record {
  placed : IsPlaced l.from;
  same : line_holds l.joined l.width l.at.x l.at.y (lines_from l.from (drop l.to-index l.points))
      ≡ line_holds l.fn.joined l.width l.at.x l.at.y (lines_from l.fn.start l.points);
}
