use Rattle.std.proofs.Common.{refl, ◌∙◌, ◌^◌, lit≤}
use Rattle.std.proofs.Math.Nat.{le_trans}
use Rattle.std.specs.Int.{w128}
use Rattle.std.proofs.lemmas.Int.{to_z-of_z}
use Rattle.affine.proofs.Bits.{sum-fits, sum-read, sum-size, times_one, widened, widened-size}
use Rattle.affine.proofs.hulls.corner.Goals as goal

pub sum_of_products-requires-clause-x_size : goal.sum_of_products-requires-clause-x_size
sum_of_products-requires-clause-x_size c = widened-size c.args.u c.from.result c.ranges.u c.from.ensures

pub sum_of_products-requires-clause-y_size : goal.sum_of_products-requires-clause-y_size
sum_of_products-requires-clause-y_size c = widened-size c.args.v c.from-2.result c.ranges.v c.from-2.ensures

pub overflow_add-result : goal.overflow_add-result
overflow_add-result c =
    sum-fits c.sum_of_products.result c.args.e (le_trans c.sum_of_products.ensures.size (lit≤ tt)) (le_trans c.requires.e_size (lit≤ tt))

pub returns-clause-value : goal.returns-clause-value
returns-clause-value c =
    let u = widened c.args.u c.from.result c.ranges.u c.from.ensures in
    let v = widened c.args.v c.from-2.result c.ranges.v c.from-2.ensures in
    let sum = rw (to_z-of_z w128 c.args.a c.ranges.a, u, to_z-of_z w128 c.args.c c.ranges.c, v) at c.sum_of_products.ensures.value in
    sum-read c.sum_of_products.result c.args.e (le_trans c.sum_of_products.ensures.size (lit≤ tt)) (le_trans c.requires.e_size (lit≤ tt))
    ∙ rw (sum, times_one c.args.e) refl

pub returns-clause-size : goal.returns-clause-size
returns-clause-size c =
    le_trans (sum-size c.sum_of_products.result c.args.e (2 ^ 116) (2 ^ 70) (lit≤ tt) (lit≤ tt) c.sum_of_products.ensures.size c.requires.e_size) (lit≤ tt)
