-- There are as many nodes as slots that hold one.
use Rattle.std.proofs.Common.{sym, ◌∙◌}
use Rattle.box_tree.proofs.NodesLemmas.{length-held}
use Rattle.box_tree.proofs.nodes.Nodes.len.Goals as goal

pub returns : goal.returns
returns c = rw (← c.self.view_is) (c.len.ensures ∙ sym (length-held c.self.inside.slots.slots))
