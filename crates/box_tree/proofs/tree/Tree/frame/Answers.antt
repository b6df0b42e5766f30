-- The frame is that of the page that the nodes are.
use Rattle.std.proofs.Common.{refl}
use Rattle.box_tree.proofs.tree.Tree.frame.Goals as goal

pub returns : goal.returns
returns c = rw (← c.self.view_is) (record { sums = c.self.invariant.sums_are; root = c.self.invariant.kept.root; viewport = refl; next = refl })
