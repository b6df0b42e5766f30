-- The items of the page have no item twice, since no id stands in it twice.
use Rattle.stacking.proofs.OnceLemmas as once
use Rattle.stacking.proofs.laws.each_item_is_painted_once.Goals as goal

pub returns : goal.returns
returns c = once.each_item_is_painted_once
