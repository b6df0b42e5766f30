use Rattle.std.proofs.Common.{arith}
use Rattle.std.proofs.lemmas.Int.{ints, clamps}
use Rattle.corner_shapes.proofs.RadiiLemmas.{same_radii}
use Rattle.corner_shapes.proofs.rounded.less_border.Goals as goal

pub returns : goal.returns
returns c = same_radii (omega (arith, ints, clamps)) (omega (arith, ints, clamps))
