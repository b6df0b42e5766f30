-- A parent has fewer nodes at and above it.
use Rattle.std.proofs.Common.{length}
use Rattle.box_tree.specs.Edited.{ancestors_below}
use Rattle.spaces.proofs.table.SpaceTable.+place.Given as goal

abbrev pub decreases-place : goal.decreases-place
decreases-place g l = length (ancestors_below l.page.now.contents l.id)
