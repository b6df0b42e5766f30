use Rattle.pointer_input.proofs.HolderLemmas.{free_from_start}
use Rattle.pointer_input.proofs.laws.a_holder_needs_a_button.Goals as goal

pub returns : goal.returns
returns c = free_from_start
