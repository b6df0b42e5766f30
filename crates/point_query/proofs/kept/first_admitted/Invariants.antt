-- None of the items so far is admitted, and each of them took at least a step less than it may.
use Rattle.std.proofs.Common.{◌≡◌, ◌+◌, ◌≤◌, [], take}
use Rattle.std.specs.List.{sum_by}
use Rattle.point_query.specs.Bound.{member_bound}
use Rattle.point_query.specs.Elements.{elements_of}
use Rattle.point_query.specs.Topmost.{items_named}
use Rattle.point_query.proofs.kept.first_admitted.Given as goal

abbrev pub invariant-loop-number : goal.invariant-loop-number
invariant-loop-number g l = record {
  none : elements_of l.page.contents l.x l.y (items_named l.page.items (take l.number-index l.numbers)) ≡ [];
  taken : l.steps + l.number-index ≤ l.initial.steps + sum_by (member_bound l.page.contents) (items_named l.page.items (take l.number-index l.numbers));
  counts : l.initial.steps ≤ l.steps;
}
