-- An item in both lists is one of both pages, and so it keeps its number.
use Rattle.stacking.proofs.WholeLemmas.{lists-keep_numbers}
use Rattle.stacking.proofs.laws.lists_keep_numbers.Goals as goal

pub returns : goal.returns
returns c = λ page after items items' id valid valid' are keeps real stays. lists-keep_numbers page after items items' id valid valid' are keeps real stays
