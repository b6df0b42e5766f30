use Rattle.std.proofs.Common.{arith, ap, subst, to_z, w64, ◌∙◌, List, length, ◌≤◌, unsigned_abs, get_or, false}
use Rattle.std.proofs.lemmas.Int.{ints}
use Rattle.poly_shapes.specs.declared.point.Point.{Point}
use Rattle.poly_shapes.specs.Segments.{ring}
use Rattle.poly_shapes.specs.Fill.{winding}
use Rattle.poly_shapes.proofs.FillLemmas.{sum-kept}
use Rattle.poly_shapes.proofs.OutlineLemmas.{total-tiled, tiled-within, narrow_by_points, signed_size-kept, outline_winding-step}
use Rattle.poly_shapes.proofs.fill.winding_of.Goals as goal

pub loop-sub-init : goal.loop-sub-init
loop-sub-init c = record {
  size = let all = total-tiled 0 (length c.args.points.now) c.args.subs.now c.requires.outline.tiled in omega arith;
  whole = omega (arith, ints);
}

pub points_of-requires : goal.points_of-requires
points_of-requires c =
    tiled-within 0 (length c.args.points.now) c.args.subs.now c.loop-sub.sub-index _ c.requires.outline.tiled (omega arith)

pub loop-sub-preserved : goal.loop-sub-preserved
loop-sub-preserved c =
    let IsShort : List Point → Type 0 = λ ps. unsigned_abs c.ring_winding-sum.result ≤ length ps in
    record {
      size = signed_size-kept (to_z w64 c.loop-sub.sum-bits) c.ring_winding-sum.result
          c.args.points.now c.args.subs.now c.loop-sub.sub-index _ (omega arith)
          c.requires.outline.few c.loop-sub.invariant.size
          (subst IsShort c.points_of.ensures c.ring_winding-sum.ensures.size);
      whole = sum-kept (to_z w64 c.loop-sub.sum-bits) c.ring_winding-sum.result _ _ _ _
          (let before = c.loop-sub.invariant.size in omega arith)
          (narrow_by_points c.ring_winding-sum.result c.args.points.now
          (get_or c.args.subs.now c.loop-sub.sub-index (record { first = 0; count = 0; closed = false })) c.requires.outline.few
          (subst IsShort c.points_of.ensures c.ring_winding-sum.ensures.size))
          (c.ring_winding-sum.ensures.value
          ∙ ap (λ (ps : List Point). winding (ring ps) c.args.at.x c.args.at.y) c.points_of.ensures)
          c.loop-sub.invariant.whole
          (outline_winding-step c.args.points.now c.args.subs.now c.loop-sub.sub-index _ c.args.at.x c.args.at.y (omega arith));
    }
