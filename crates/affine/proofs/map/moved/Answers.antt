use Rattle.std.proofs.Common.{refl, ◌∙◌, ◌^◌, lit≤}
use Rattle.std.proofs.Math.IntN.{*ℤ_comm}
use Rattle.std.proofs.Math.Nat.{le_trans}
use Rattle.std.specs.Int.{w128}
use Rattle.std.proofs.lemmas.Int.{to_z-of_z}
use Rattle.affine.proofs.Bits.{sum-fits, sum-read, sum-size}
use Rattle.affine.proofs.map.moved.Goals as goal

pub overflow_add-result : goal.overflow_add-result
overflow_add-result c =
    sum-fits c.args.sum c.times.result (le_trans c.requires.sum_size (lit≤ tt)) (le_trans c.times.ensures.size (lit≤ tt))

pub returns-clause-value : goal.returns-clause-value
returns-clause-value c =
    let product = rw (to_z-of_z w128 c.args.q c.ranges.q, to_z-of_z w128 c.args.e c.ranges.e) at c.times.ensures.value in
    sum-read c.args.sum c.times.result (le_trans c.requires.sum_size (lit≤ tt)) (le_trans c.times.ensures.size (lit≤ tt))
    ∙ rw (product, *ℤ_comm c.args.q c.args.e) refl

pub returns-clause-size : goal.returns-clause-size
returns-clause-size c =
    le_trans (sum-size c.args.sum c.times.result (2 ^ 116) (2 ^ 115) (lit≤ tt) (lit≤ tt) c.requires.sum_size c.times.ensures.size) (lit≤ tt)
