-- The walk of a layer, in which each stacking context is replaced by its list.
use Rattle.stacking.proofs.NestLemmas.{lists-flatten}
use Rattle.stacking.proofs.laws.lists_flatten_to_the_layer.Goals as goal

pub returns : goal.returns
returns c = λ page items lists id valid are real. lists-flatten page valid items lists are id real
