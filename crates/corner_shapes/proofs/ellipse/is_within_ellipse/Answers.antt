use Rattle.std.proofs.Common.{arith}
use Rattle.corner_shapes.proofs.Products.{square_of_product}
use Rattle.corner_shapes.proofs.ellipse.is_within_ellipse.Goals as goal

pub overflow_add-result : goal.overflow_add-result
overflow_add-result c =
    let across = square_of_product c.args.dx c.from-y_radius.result (omega arith) (omega arith) in
    let down = square_of_product c.args.dy c.from-x_radius.result (omega arith) (omega arith) in
    omega arith
