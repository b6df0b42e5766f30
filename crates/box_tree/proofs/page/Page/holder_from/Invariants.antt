-- Each step goes up to the parent, and the nearest that may hold is still the same.
use Rattle.std.proofs.Common.{◌≡◌, length}
use Rattle.box_tree.specs.Edited.{ancestors_below}
use Rattle.box_tree.specs.Containing.{holder_among}
use Rattle.box_tree.proofs.page.Page.holder_from.Given as goal

abbrev pub invariant-loop-node : goal.invariant-loop-node
invariant-loop-node l = holder_among l.wanted (ancestors_below l.self.contents l.above) ≡ holder_among l.fn.wanted (ancestors_below l.self.contents l.fn.id)

abbrev pub decreases-loop-node : goal.decreases-loop-node
decreases-loop-node l = length (ancestors_below l.self.contents l.above)
