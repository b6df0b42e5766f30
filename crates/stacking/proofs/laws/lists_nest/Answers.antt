-- A stacking context in a list has fewer levels of nodes below it than that of the list.
use Rattle.stacking.proofs.NestLemmas.{lists-nest}
use Rattle.stacking.proofs.laws.lists_nest.Goals as goal

pub returns : goal.returns
returns c = λ page items lists valid are. lists-nest page valid items lists are
