-- The members of the cells of the point in the lower levels.
use Rattle.std.proofs.Common.{◌≡◌, ◌+◌, length, take}
use Rattle.point_query.specs.Near.{members_below}
use Rattle.point_query.proofs.candidates.candidates.Given as goal

abbrev pub invariant-loop-level : goal.invariant-loop-level
invariant-loop-level g l = record {
  written : take l.count l.room ≡ members_below l.grid l.x l.y l.level;
  counted : l.count ≡ length (members_below l.grid l.x l.y l.level);
  taken : l.steps ≡ l.initial.steps + (l.level + l.count);
}
