-- What is written, followed by what is above, is the way up from the element.
use Rattle.std.proofs.Common.{◌≡◌, ◌≢◌, ◌+◌, ◌++◌, true, length, take}
use Rattle.box_tree.specs.Contents.{has_id}
use Rattle.box_tree.specs.Edited.{ancestors_below}
use Rattle.point_query.proofs.ChainLemmas.{upwards}
use Rattle.point_query.proofs.chains.write_upwards.Given as goal

abbrev pub invariant-loop-above : goal.invariant-loop-above
invariant-loop-above g l = record {
  written : take l.count l.room ++ upwards l.page.contents l.above ≡ upwards l.page.contents l.fn.id;
  counted : l.count + length (upwards l.page.contents l.above) ≡ length (upwards l.page.contents l.fn.id);
  cost : l.steps ≡ l.initial.steps + l.count;
  there : l.above ≢ 0 → has_id l.page.contents l.above ≡ true;
}

abbrev pub decreases-loop-above : goal.decreases-loop-above
decreases-loop-above g l = length (ancestors_below l.page.contents l.above)
