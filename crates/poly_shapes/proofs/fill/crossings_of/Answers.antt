use Rattle.std.proofs.Common.{arith, ap, subst, ◌∙◌, List, length, ◌≤◌}
use Rattle.poly_shapes.specs.declared.point.Point.{Point}
use Rattle.poly_shapes.specs.Segments.{ring}
use Rattle.poly_shapes.specs.Fill.{crossings}
use Rattle.poly_shapes.proofs.OutlineLemmas.{total-tiled, tiled-within, size-kept, outline_crossings-step, count-kept}
use Rattle.poly_shapes.proofs.fill.crossings_of.Goals as goal

pub loop-sub-init : goal.loop-sub-init
loop-sub-init c = record {
  size = let all = total-tiled 0 (length c.args.points.now) c.args.subs.now c.requires.outline.tiled in omega arith;
  whole = omega arith;
}

pub points_of-requires : goal.points_of-requires
points_of-requires c =
    tiled-within 0 (length c.args.points.now) c.args.subs.now c.loop-sub.sub-index _ c.requires.outline.tiled (omega arith)

pub loop-sub-preserved : goal.loop-sub-preserved
loop-sub-preserved c =
    let IsShort : List Point → Type 0 = λ ps. c.ring_crossings-count.result ≤ length ps in
    record {
      size = size-kept c.loop-sub.count c.ring_crossings-count.result
          c.args.points.now c.args.subs.now c.loop-sub.sub-index _ (omega arith) c.loop-sub.invariant.size
          (subst IsShort c.points_of.ensures c.ring_crossings-count.ensures.size);
      whole = count-kept c.loop-sub.count c.ring_crossings-count.result _ _ _ _
          (c.ring_crossings-count.ensures.value
          ∙ ap (λ (ps : List Point). crossings (ring ps) c.args.at.x c.args.at.y) c.points_of.ensures)
          c.loop-sub.invariant.whole
          (outline_crossings-step c.args.points.now c.args.subs.now c.loop-sub.sub-index _ c.args.at.x c.args.at.y (omega arith));
    }
