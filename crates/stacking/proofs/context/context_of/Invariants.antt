-- Each step goes up to the parent, and the nearest stacking context is still the same.
use Rattle.std.proofs.Common.{◌≡◌, ◌≢◌, true, length}
use Rattle.box_tree.specs.Contents.{has_id}
use Rattle.box_tree.specs.Edited.{ancestors_below}
use Rattle.stacking.specs.Contexts.{nearest_context, context_of}
use Rattle.stacking.proofs.context.context_of.Given as goal

abbrev pub invariant-loop-above : goal.invariant-loop-above
invariant-loop-above l = record {
  nearest : nearest_context (ancestors_below l.page.contents l.above) ≡ context_of l.page.contents l.fn.id;
  there : l.above ≢ 0 → has_id l.page.contents l.above ≡ true;
}

abbrev pub decreases-loop-above : goal.decreases-loop-above
decreases-loop-above l = length (ancestors_below l.page.contents l.above)
