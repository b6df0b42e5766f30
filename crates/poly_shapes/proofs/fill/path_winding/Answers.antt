use Rattle.std.proofs.Common.{arith, rules, to_z, w64}
use Rattle.poly_shapes.proofs.FillLemmas.{winding-step, sum-kept, sum-size}
use Rattle.poly_shapes.proofs.fill.path_winding.Goals as goal

pub loop-to-preserved : goal.loop-to-preserved
loop-to-preserved c = record {
  placed = search rules;
  size = sum-size (to_z w64 c.loop-to.sum-bits) c.edge_winding-sum.result _ 1
      c.loop-to.invariant.size c.edge_winding-sum.ensures.size (omega arith);
  whole = sum-kept (to_z w64 c.loop-to.sum-bits) c.edge_winding-sum.result _ _ _ _
      (omega arith) (omega arith) c.edge_winding-sum.ensures.value c.loop-to.invariant.whole
      (winding-step c.loop-to.from c.args.points.now c.loop-to.to-index _ c.args.at.x c.args.at.y (omega arith));
}
