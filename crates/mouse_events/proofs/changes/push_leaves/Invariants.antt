use Rattle.std.proofs.Common.{◌≡◌, ◌≤◌, ◌+◌, ◌++◌, take, length, reverse, vec_len, vec_capacity}
use Rattle.mouse_events.specs.declared.event.EventKind.TheVariants.{Leave}
use Rattle.mouse_events.specs.Chain.{without, living}
use Rattle.mouse_events.specs.Events.{on_each}
use Rattle.mouse_events.proofs.changes.push_leaves.Given as goal

-- what was pushed, with the leaves of the members that are still to come, is what is wanted
abbrev pub invariant-loop-i : goal.invariant-loop-i
invariant-loop-i l =
    (l.events.items ++ on_each Leave (reverse (without l.new_chain (living (take l.i l.kept) (take l.i l.alive)))) l.related
    ≡ l.initial.events.items ++ on_each Leave (reverse (without l.new_chain (living l.kept l.alive))) l.related)
    × (vec_len l.events + l.i ≤ vec_len l.initial.events + length l.kept)
    × (vec_capacity l.events ≡ vec_capacity l.initial.events)
