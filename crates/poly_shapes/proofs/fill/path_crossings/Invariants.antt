use Rattle.std.proofs.Common.{◌≡◌, ◌≤◌, ◌+◌, drop}
use Rattle.poly_shapes.specs.Segments.{IsPlaced, path_from}
use Rattle.poly_shapes.specs.Fill.{crossings}
use Rattle.poly_shapes.proofs.fill.path_crossings.Given as goal

-- what is counted and what is left make the whole
abbrev pub invariant-loop-to : goal.invariant-loop-to
invariant-loop-to l = record {
  placed : IsPlaced l.from;
  size : l.count ≤ l.to-index;
  whole : l.count + crossings (path_from l.from (drop l.to-index l.points)) l.at.x l.at.y
      ≡ crossings (path_from l.fn.start l.points) l.at.x l.at.y;
}
