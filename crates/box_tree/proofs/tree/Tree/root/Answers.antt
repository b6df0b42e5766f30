use Rattle.box_tree.proofs.KeptPages.{root_with_nodes}
use Rattle.box_tree.proofs.tree.Tree.root.Goals as goal

pub returns-clause-none : goal.returns-clause-none
returns-clause-none c = rw (← c.self.view_is) (root_with_nodes _ c.self.inside.frame.root c.self.invariant.kept.root)
