use Rattle.std.proofs.Common.{◌≡◌, ◌++◌, take}
use Rattle.pointer_input.specs.Inputs.{as_events}
use Rattle.pointer_input.proofs.playing.push_events.Given as goal

abbrev pub invariant-loop-event : goal.invariant-loop-event
invariant-loop-event l = l.outputs.items ≡ l.initial.outputs.items ++ as_events (take l.event-index l.events)
