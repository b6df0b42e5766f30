use Rattle.std.proofs.Common.{arith}
use Rattle.std.proofs.lemmas.Int.{ints}
use Rattle.poly_shapes.proofs.ExtentLemmas.{same_bounds}
use Rattle.poly_shapes.proofs.point.Bounds.moved_out.Goals as goal

pub returns : goal.returns
returns c = same_bounds (omega (arith, ints)) (omega (arith, ints)) (omega (arith, ints)) (omega (arith, ints))
