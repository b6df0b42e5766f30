use Rattle.std.proofs.Common.{◌≡◌, ◌+◌, ◌≤◌, ◌++◌, None, replicate, vec_len, vec_capacity}
use Rattle.paint_order.proofs.forest.lengthen.Given as goal

abbrev pub invariant-loop : goal.invariant-loop
invariant-loop l = record {
  items : l.lists.items ≡ l.initial.lists.items ++ replicate l.counter None;
  len : vec_len l.lists ≡ vec_len l.initial.lists + l.counter;
  room : vec_len l.initial.lists + l.missing ≤ vec_capacity l.lists;
}
