use Rattle.std.proofs.Common.{arith, refl, ◌∙◌}
use Rattle.std.proofs.lemmas.Int.{ints}
use Rattle.poly_shapes.proofs.Widths.{product_of_differences, sum-read}
use Rattle.poly_shapes.proofs.segment.Segment.along.Goals as goal

pub overflow_add-result : goal.overflow_add-result
overflow_add-result c = omega (arith, ints)

pub returns-clause-value : goal.returns-clause-value
returns-clause-value c =
    let s = c.args.self in
    let p = c.args.at in
    let first = product_of_differences s.to.x s.from.x p.x s.from.x c.product.result
    (omega arith) (omega arith) (omega arith) (omega arith) c.product.ensures.value in
    let second = product_of_differences s.to.y s.from.y p.y s.from.y c.product-2.result
    (omega arith) (omega arith) (omega arith) (omega arith) c.product-2.ensures.value in
    sum-read c.product.result c.product-2.result (omega arith) (omega arith) ∙ rw (first, second) refl
