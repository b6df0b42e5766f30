use Rattle.std.proofs.Common.{◌≡◌, take, vec_len, vec_capacity}
use Rattle.pointer_input.specs.Buttons.{still_there}
use Rattle.pointer_input.proofs.presses.write_alive.Given as goal

abbrev pub invariant-loop-member : goal.invariant-loop-member
invariant-loop-member l =
    (l.alive.items ≡ still_there l.gone (take l.member-index l.chain)) × (vec_len l.alive ≡ l.member-index)
    × (vec_capacity l.alive ≡ vec_capacity l.fn.alive)
