use Rattle.std.proofs.Common.{refl, ◌∙◌, ◌^◌, lit≤}
use Rattle.std.proofs.Math.Nat.{le_trans}
use Rattle.std.specs.Int.{w64, w128}
use Rattle.std.proofs.lemmas.Int.{to_z-of_z}
use Rattle.affine.proofs.Bits.{difference-read, difference-size}
use Rattle.view_boxes.proofs.view_map.moved.Goals as goal

pub returns-clause-value : goal.returns-clause-value
returns-clause-value c =
    let first = rw (to_z-of_z w64 c.args.of c.ranges.of, to_z-of_z w128 c.args.one c.ranges.one) at c.times.ensures.value in
    let second = rw (to_z-of_z w64 c.args.less c.ranges.less, to_z-of_z w128 c.args.scale c.ranges.scale) at c.times-2.ensures.value in
    difference-read c.times.result c.times-2.result (le_trans c.times.ensures.size (lit≤ tt)) (le_trans c.times-2.ensures.size (lit≤ tt))
    ∙ rw (first, second) refl

pub returns-clause-size : goal.returns-clause-size
returns-clause-size c =
    difference-size c.times.result c.times-2.result (2 ^ 90) (2 ^ 90) (lit≤ tt) (lit≤ tt) c.times.ensures.size c.times-2.ensures.size
