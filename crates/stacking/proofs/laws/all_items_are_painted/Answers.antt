-- Each node adds to one of the sums, and is counted by the node that paints it.
use Rattle.stacking.proofs.CountLemmas as counted
use Rattle.stacking.proofs.laws.all_items_are_painted.Goals as goal

pub returns : goal.returns
returns c = counted.all_items_are_painted
