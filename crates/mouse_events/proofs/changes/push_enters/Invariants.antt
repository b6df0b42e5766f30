use Rattle.std.proofs.Common.{◌≡◌, ◌≤◌, ◌+◌, ◌++◌, take, vec_len, vec_capacity}
use Rattle.mouse_events.specs.declared.event.EventKind.TheVariants.{Enter}
use Rattle.mouse_events.specs.Chain.{without}
use Rattle.mouse_events.specs.Events.{on_each}
use Rattle.mouse_events.proofs.changes.push_enters.Given as goal

abbrev pub invariant-loop-member : goal.invariant-loop-member
invariant-loop-member l =
    (l.events.items ≡ l.initial.events.items ++ on_each Enter (without l.kept (take l.member-index l.new_chain)) l.related)
    × (vec_len l.events ≤ vec_len l.initial.events + l.member-index)
    × (vec_capacity l.events ≡ vec_capacity l.initial.events)
