use Rattle.std.proofs.Common.{◌≡◌, drop, fold}
use Rattle.poly_shapes.specs.Extent.{widened}
use Rattle.poly_shapes.proofs.point.Bounds.widened_by.Given as goal

abbrev pub invariant-loop-p : goal.invariant-loop-p
invariant-loop-p l = fold widened l.bounds (drop l.p-index l.points) ≡ fold widened l.fn.self l.points
