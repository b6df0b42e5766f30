-- The last list is had again.
use Rattle.box_tree.proofs.FollowLemmas.{goes_back_next, goes_back_more}
use Rattle.box_tree.proofs.items.Items.back_all.Goals as goal

pub back-requires : goal.back-requires
back-requires c = goes_back_next _ _ _ _ _ c.in-Some.last c.loop-last.invariant c.in-Some.ensures.items

pub loop-last-preserved : goal.loop-last-preserved
loop-last-preserved c = goes_back_more _ _ _ _ _ _ c.in-Some.last c.loop-last.invariant c.in-Some.ensures.items c.back.ensures
