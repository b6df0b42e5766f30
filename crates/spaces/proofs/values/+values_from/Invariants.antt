-- A parent has fewer nodes at and above it.
use Rattle.std.proofs.Common.{length}
use Rattle.box_tree.specs.Edited.{ancestors_below}
use Rattle.spaces.proofs.values.+values_from.Given as goal

abbrev pub decreases-values_from : goal.decreases-values_from
decreases-values_from g l = length (ancestors_below l.page.now.contents l.id)
