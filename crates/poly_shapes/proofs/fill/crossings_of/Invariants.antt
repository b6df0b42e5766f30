use Rattle.std.proofs.Common.{◌≡◌, ◌≤◌, ◌+◌, drop, length}
use Rattle.poly_shapes.specs.Outline.{edges_of}
use Rattle.poly_shapes.specs.Fill.{crossings}
use Rattle.poly_shapes.proofs.OutlineLemmas.{total}
use Rattle.poly_shapes.proofs.fill.crossings_of.Given as goal

-- what is counted and what is left make the whole
abbrev pub invariant-loop-sub : goal.invariant-loop-sub
invariant-loop-sub l = record {
  size : l.count + total (drop l.sub-index l.subs) ≤ length l.points;
  whole : l.count + crossings (edges_of l.points (drop l.sub-index l.subs)) l.at.x l.at.y
      ≡ crossings (edges_of l.points l.subs) l.at.x l.at.y;
}
