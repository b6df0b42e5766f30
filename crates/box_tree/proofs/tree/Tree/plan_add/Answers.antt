-- More room changes nothing.
use Rattle.box_tree.proofs.KeptPages.{counted-reserved}
use Rattle.box_tree.proofs.tree.Tree.plan_add.Goals as goal

pub invariant_of-self : goal.invariant_of-self
invariant_of-self c = counted-reserved c.self.inside.nodes c.reserve.new.self c.self.inside.frame c.reserve.ensures.nodes c.reserve.ensures.room c.reserve.ensures.ids c.self.invariant
