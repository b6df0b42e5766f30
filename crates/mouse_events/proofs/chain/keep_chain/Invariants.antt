use Rattle.std.proofs.Common.{◌≡◌, take, vec_capacity}
use Rattle.mouse_events.proofs.chain.keep_chain.Given as goal

abbrev pub invariant-loop-member : goal.invariant-loop-member
invariant-loop-member l =
    (l.kept.items ≡ take l.member-index l.chain) × (vec_capacity l.kept ≡ vec_capacity l.fn.kept)
