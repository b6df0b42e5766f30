-- The items so far, and those of the blocks that are left.
use Rattle.std.proofs.Common.{◌≡◌, ◌++◌, drop}
use Rattle.std.specs.List.{flat_map}
use Rattle.stacking.specs.Painting.{own, blocks}
use Rattle.stacking.specs.OnPage.{of_node}
use Rattle.stacking.proofs.flat.push_blocks.Given as goal

abbrev pub invariant-loop-block : goal.invariant-loop-block
invariant-loop-block l = l.items.items ++ flat_map own (drop l.block-index (of_node blocks l.page.contents l.id)) ≡ l.fn.items.items ++ flat_map own (of_node blocks l.page.contents l.id)
