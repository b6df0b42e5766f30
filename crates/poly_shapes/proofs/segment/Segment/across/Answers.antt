use Rattle.std.proofs.Common.{arith, refl, ◌∙◌, ◌-ℤ◌}
use Rattle.std.proofs.lemmas.Int.{ints}
use Rattle.std.proofs.Math.IntN.{*ℤ_comm}
use Rattle.whole_numbers.proofs.Widths.{width-sub}
use Rattle.poly_shapes.proofs.Widths.{product_of_differences, difference_of_products}
use Rattle.poly_shapes.proofs.segment.Segment.across.Goals as goal

pub overflow_sub-to-2 : goal.overflow_sub-to-2
overflow_sub-to-2 c = omega (arith, ints)

pub overflow_sub-at-2 : goal.overflow_sub-at-2
overflow_sub-at-2 c = omega (arith, ints)

pub overflow_sub-result : goal.overflow_sub-result
overflow_sub-result c = omega (arith, ints)

pub returns-clause-value : goal.returns-clause-value
returns-clause-value c =
    let s = c.args.self in
    let p = c.args.at in
    let first = product_of_differences s.to.x s.from.x p.y s.from.y c.product.result
    (omega arith) (omega arith) (omega arith) (omega arith) c.product.ensures.value in
    let second = product_of_differences s.to.y s.from.y p.x s.from.x c.product-2.result
    (omega arith) (omega arith) (omega arith) (omega arith) c.product-2.ensures.value in
    difference_of_products c.product.result c.product-2.result (omega arith) (omega arith)
    ∙ rw (first, second, *ℤ_comm (s.to.y -ℤ s.from.y)) refl

pub returns-clause-size : goal.returns-clause-size
returns-clause-size c =
    rw (difference_of_products c.product.result c.product-2.result (omega arith) (omega arith))
    (width-sub c.product.result c.product-2.result _ _ c.product.ensures.size c.product-2.ensures.size)
