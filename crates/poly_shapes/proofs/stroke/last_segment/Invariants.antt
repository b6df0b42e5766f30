use Rattle.std.proofs.Common.{◌≡◌, drop}
use Rattle.poly_shapes.specs.Segments.{IsPlaced}
use Rattle.poly_shapes.specs.Stroke.{lines_from, last_of}
use Rattle.poly_shapes.proofs.stroke.last_segment.Given as goal

abbrev pub invariant-loop-to : goal.invariant-loop-to
invariant-loop-to l = record {
  placed : IsPlaced l.from;
  from : IsPlaced l.last.from;
  to : IsPlaced l.last.to;
  same : last_of l.last (lines_from l.from (drop l.to-index l.points)) ≡ last_of l.fn.before (lines_from l.fn.start l.points);
}
