use Rattle.computed_style.proofs.InheritanceLemmas.{nearest_is_taken}
use Rattle.computed_style.proofs.laws.nearest_declaration_wins.Goals as goal

pub returns : goal.returns
returns c = nearest_is_taken
