-- The definition says it.
use Rattle.std.proofs.Common.{refl}
use Rattle.stacking.proofs.laws.lines_are_in_order.Goals as goal

pub returns : goal.returns
returns c = λ p. refl
