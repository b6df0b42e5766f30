use Rattle.std.proofs.Common.{rules}
use Rattle.poly_shapes.proofs.ExtentLemmas.{int_min-read, int_max-read, same_bounds}
use Rattle.poly_shapes.proofs.point.Bounds.widened.Goals as goal

pub returns : goal.returns
returns c =
    let b = c.args.self in
    same_bounds
    (int_min-read b.l c.args.p.x c.min.result (search rules) (search rules) (search rules) c.min.ensures.value)
    (int_min-read b.t c.args.p.y c.min-2.result (search rules) (search rules) (search rules) c.min-2.ensures.value)
    (int_max-read b.r c.args.p.x c.max.result (search rules) (search rules) (search rules) c.max.ensures.value)
    (int_max-read b.b c.args.p.y c.max-2.result (search rules) (search rules) (search rules) c.max-2.ensures.value)
