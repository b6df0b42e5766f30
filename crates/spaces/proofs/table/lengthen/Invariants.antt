-- The slots that come have no entry, and there is room for all of them.
use Rattle.std.proofs.Common.{◌≡◌, ◌+◌, ◌≤◌, ◌++◌, None, replicate, vec_len, vec_capacity}
use Rattle.spaces.proofs.table.lengthen.Given as goal

abbrev pub invariant-loop : goal.invariant-loop
invariant-loop l = record {
  items : l.slots.items ≡ l.initial.slots.items ++ replicate l.counter None;
  len : vec_len l.slots ≡ vec_len l.initial.slots + l.counter;
  room : vec_len l.initial.slots + l.missing ≤ vec_capacity l.slots;
}
