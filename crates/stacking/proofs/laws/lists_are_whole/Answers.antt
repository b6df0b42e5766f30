-- A stacking context other than the root stands in the list of the nearest one above it.
use Rattle.stacking.proofs.WholeLemmas.{lists-whole}
use Rattle.stacking.proofs.laws.lists_are_whole.Goals as goal

pub returns : goal.returns
returns c = λ page items lists root valid are is. lists-whole page valid items lists are root is
