-- The new node is not its own parent.
use Rattle.box_tree.proofs.ExchangeLemmas.{child_within}
use Rattle.box_tree.proofs.tree.adds.take_added.Goals as goal

pub take_child-requires : goal.take_child-requires
take_child-requires c = child_within _ _ c.args.id c.args.parent c.args.place c.requires c.take.ensures.looked_up
