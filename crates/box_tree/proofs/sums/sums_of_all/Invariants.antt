-- The sums so far are those of the nodes so far.
use Rattle.std.proofs.Common.{◌≡◌, take}
use Rattle.box_tree.specs.Totals.{sums_over}
use Rattle.box_tree.proofs.sums.sums_of_all.Given as goal

abbrev pub invariant-loop-node : goal.invariant-loop-node
invariant-loop-node l = l.sums ≡ sums_over (take l.node-index l.nodes.items)
