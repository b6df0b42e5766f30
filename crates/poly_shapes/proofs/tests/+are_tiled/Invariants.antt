use Rattle.std.proofs.Common.{length}
use Rattle.poly_shapes.proofs.tests.+are_tiled.Given as goal

abbrev pub decreases-are_tiled : goal.decreases-are_tiled
decreases-are_tiled l = length l.subs.now
