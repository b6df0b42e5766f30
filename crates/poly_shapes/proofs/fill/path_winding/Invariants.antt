use Rattle.std.proofs.Common.{◌≡◌, ◌≤◌, unsigned_abs, ◌+ℤ◌, drop}
use Rattle.poly_shapes.specs.Segments.{IsPlaced, path_from}
use Rattle.poly_shapes.specs.Fill.{winding}
use Rattle.poly_shapes.proofs.fill.path_winding.Given as goal

-- what is summed and what is left make the whole
abbrev pub invariant-loop-to : goal.invariant-loop-to
invariant-loop-to l = record {
  placed : IsPlaced l.from;
  size : unsigned_abs l.sum ≤ l.to-index;
  whole : l.sum +ℤ winding (path_from l.from (drop l.to-index l.points)) l.at.x l.at.y
      ≡ winding (path_from l.fn.start l.points) l.at.x l.at.y;
}
