-- A parent has fewer nodes at and above it.
use Rattle.std.proofs.Common.{length}
use Rattle.box_tree.specs.Edited.{ancestors_below}
use Rattle.spaces.proofs.views.+all_show.Given as goal

abbrev pub decreases-all_show : goal.decreases-all_show
decreases-all_show g l = length (ancestors_below l.page.now.contents l.id)
