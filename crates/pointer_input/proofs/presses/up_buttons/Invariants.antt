use Rattle.std.proofs.Common.{◌≡◌, ◌≤◌, None, replicate, vec_len, vec_capacity}
use Rattle.pointer_input.proofs.presses.up_buttons.Given as goal

abbrev pub invariant-loop : goal.invariant-loop
invariant-loop l = record {
  items : l.presses.items ≡ replicate l.counter None;
  len : vec_len l.presses ≡ l.counter;
  room : 5 ≤ vec_capacity l.presses;
}
