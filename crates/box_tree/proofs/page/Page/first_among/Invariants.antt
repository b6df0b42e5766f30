-- None of the nodes so far covers the point, and each took one step.
use Rattle.box_tree.proofs.CoverLemmas.{HasSearched}
use Rattle.box_tree.proofs.page.Page.first_among.Given as goal

abbrev pub invariant-loop-id : goal.invariant-loop-id
invariant-loop-id g l = HasSearched l.self.contents l.x l.y l.ids l.id-index l.fn.steps l.steps
