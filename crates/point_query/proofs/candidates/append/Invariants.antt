-- The numbers so far stand behind the first.
use Rattle.std.proofs.Common.{◌≡◌, ◌+◌, ◌++◌, take}
use Rattle.point_query.proofs.candidates.append.Given as goal

abbrev pub invariant-loop-number : goal.invariant-loop-number
invariant-loop-number g l = record {
  written : take l.end l.room ≡ take l.count l.initial.room ++ take l.number-index l.numbers;
  more : l.end ≡ l.count + l.number-index;
  taken : l.steps ≡ l.initial.steps + l.number-index;
}
