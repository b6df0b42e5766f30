-- The contexts so far, and those of the nodes that are left.
use Rattle.std.proofs.Common.{◌≡◌, ◌++◌, drop}
use Rattle.stacking.specs.Touched.{contexts_among}
use Rattle.stacking.proofs.changes.push_contexts.Given as goal

abbrev pub invariant-loop-node : goal.invariant-loop-node
invariant-loop-node l = l.ids.items ++ contexts_among l.page.contents (drop l.node-index l.nodes) ≡ l.fn.ids.items ++ contexts_among l.page.contents l.nodes
