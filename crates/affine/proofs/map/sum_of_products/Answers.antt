use Rattle.std.proofs.Common.{refl, ◌∙◌, ◌^◌, lit≤}
use Rattle.std.proofs.Math.Nat.{le_trans}
use Rattle.std.specs.Int.{w128}
use Rattle.std.proofs.lemmas.Int.{to_z-of_z}
use Rattle.affine.proofs.Bits.{sum-fits, sum-read, sum-size}
use Rattle.affine.proofs.map.sum_of_products.Goals as goal

pub overflow_add-result : goal.overflow_add-result
overflow_add-result c =
    sum-fits c.times.result c.times-2.result (le_trans c.times.ensures.size (lit≤ tt)) (le_trans c.times-2.ensures.size (lit≤ tt))

pub returns-clause-value : goal.returns-clause-value
returns-clause-value c =
    let first = rw (to_z-of_z w128 c.args.a c.ranges.a, to_z-of_z w128 c.args.x c.ranges.x) at c.times.ensures.value in
    let second = rw (to_z-of_z w128 c.args.c c.ranges.c, to_z-of_z w128 c.args.y c.ranges.y) at c.times-2.ensures.value in
    sum-read c.times.result c.times-2.result (le_trans c.times.ensures.size (lit≤ tt)) (le_trans c.times-2.ensures.size (lit≤ tt))
    ∙ rw (first, second) refl

pub returns-clause-size : goal.returns-clause-size
returns-clause-size c =
    sum-size c.times.result c.times-2.result (2 ^ 115) (2 ^ 115) (lit≤ tt) (lit≤ tt) c.times.ensures.size c.times-2.ensures.size
