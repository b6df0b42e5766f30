use Rattle.std.proofs.Common.{◌≡◌, ◌≤◌, ◌+◌, unsigned_abs, ◌+ℤ◌, drop, length}
use Rattle.poly_shapes.specs.Outline.{edges_of}
use Rattle.poly_shapes.specs.Fill.{winding}
use Rattle.poly_shapes.proofs.OutlineLemmas.{total}
use Rattle.poly_shapes.proofs.fill.winding_of.Given as goal

-- what is summed and what is left make the whole
abbrev pub invariant-loop-sub : goal.invariant-loop-sub
invariant-loop-sub l = record {
  size : unsigned_abs l.sum + total (drop l.sub-index l.subs) ≤ length l.points;
  whole : l.sum +ℤ winding (edges_of l.points (drop l.sub-index l.subs)) l.at.x l.at.y
      ≡ winding (edges_of l.points l.subs) l.at.x l.at.y;
}
