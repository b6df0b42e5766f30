use Rattle.std.proofs.Common.{◌≡◌, drop}
use Rattle.poly_shapes.specs.Segments.{IsPlaced}
use Rattle.poly_shapes.specs.Stroke.{lines_from, first_of}
use Rattle.poly_shapes.proofs.stroke.first_segment.Given as goal

abbrev pub invariant-loop-to : goal.invariant-loop-to
invariant-loop-to l = record {
  placed : IsPlaced l.from;
  same : first_of (lines_from l.from (drop l.to-index l.points)) ≡ first_of (lines_from l.fn.start l.points);
}
