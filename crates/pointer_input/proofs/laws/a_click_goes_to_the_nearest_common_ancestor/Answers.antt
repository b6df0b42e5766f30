use Rattle.pointer_input.proofs.ClickLemmas.{clicks_nearest}
use Rattle.pointer_input.proofs.laws.a_click_goes_to_the_nearest_common_ancestor.Goals as goal

pub returns : goal.returns
returns c = clicks_nearest
