use Rattle.std.proofs.Common.{refl, ◌∙◌, lit≤}
use Rattle.std.specs.Int.{w64, w128}
use Rattle.std.proofs.Math.Nat.{le_trans}
use Rattle.std.proofs.lemmas.Int.{to_z-of_z}
use Rattle.affine.proofs.Bits.{narrow}
use Rattle.view_boxes.proofs.Bits.{doubled-fits, doubled_sum-fits, doubled_sum-read, doubled_sum-size}
use Rattle.view_boxes.proofs.view_map.doubled_translation.Goals as goal

pub overflow_mul-result : goal.overflow_mul-result
overflow_mul-result c = doubled-fits c.moved-corner.result c.moved-corner.ensures.size

pub overflow_add-result : goal.overflow_add-result
overflow_add-result c =
    doubled_sum-fits c.moved-corner.result c.doubled_share.result c.moved-corner.ensures.size c.doubled_share.ensures.size

pub returns-clause-value : goal.returns-clause-value
returns-clause-value c =
    let one = to_z-of_z w128 c.args.one c.ranges.one in
    let scale = to_z-of_z w128 c.args.scale c.ranges.scale in
    let corner =
    rw (to_z-of_z w64 c.args.place c.ranges.place, one, to_z-of_z w64 c.args.from c.ranges.from, scale) at c.moved-corner.ensures.value
    in
    let left =
    narrow c.moved-left.result (le_trans c.moved-left.ensures.size (lit≤ tt))
    ∙ rw (to_z-of_z w64 c.args.side c.ranges.side, one, to_z-of_z w64 c.args.length c.ranges.length, scale) at c.moved-left.ensures.value
    in
    let share = rw left at c.doubled_share.ensures.value in
    doubled_sum-read c.moved-corner.result c.doubled_share.result c.moved-corner.ensures.size c.doubled_share.ensures.size
    ∙ rw (corner, share) refl

pub returns-clause-size : goal.returns-clause-size
returns-clause-size c =
    doubled_sum-size c.moved-corner.result c.doubled_share.result c.moved-corner.ensures.size c.doubled_share.ensures.size
