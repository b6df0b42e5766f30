use Rattle.std.proofs.Common.{◌≡◌, ◌++◌, drop}
use Rattle.std.specs.List.{flat_map}
use Rattle.std.specs.Prelude.{codes}
use Rattle.script_lines.specs.Reply.{listed_event, Keeps}
use Rattle.script_lines.proofs.reply.append_events.Given as goal

-- what is written, followed by the events that are left, is the line before its newline
abbrev pub invariant-loop-event : goal.invariant-loop-event
invariant-loop-event l = record {
  told : l.out.items ++ flat_map listed_event (drop l.event-index l.events) ≡ l.fn.out.items ++ (codes "events" ++ flat_map listed_event l.events);
  kept : Keeps l.fn.out.items l.out.items;
}
