-- What was kept of the items so far, the numbers that are left, and that each of the items took at least a step less than it
-- may.
use Rattle.std.proofs.Common.{◌≡◌, ◌+◌, ◌≤◌, ℕ, take, get_or}
use Rattle.std.specs.List.{sum_by}
use Rattle.point_query.specs.Bound.{member_bound}
use Rattle.point_query.specs.Elements.{elements_of, each_once}
use Rattle.point_query.specs.Topmost.{items_named}
use Rattle.point_query.proofs.kept.keep_admitted.Given as goal

abbrev pub invariant-loop-at : goal.invariant-loop-at
invariant-loop-at g l = record {
  kept_is : take l.kept l.room ≡ each_once (elements_of l.page.contents l.x l.y (items_named l.page.items (take l.at l.initial.room)));
  fewer : l.kept ≤ l.at;
  taken : l.steps + l.at ≤ l.initial.steps + sum_by (member_bound l.page.contents) (items_named l.page.items (take l.at l.initial.room));
  counts : l.initial.steps ≤ l.steps;
  rest : (k d : ℕ) → l.at ≤ k → get_or l.room k d ≡ get_or l.initial.room k d;
}
