-- The lines that replies are.
use Rattle.std.specs.Prelude.{ℕ, List, [], ◌∷◌, ◌++◌, codes, decimal, Option, Some, None, length, take, ◌≡◌}
use Rattle.std.specs.List.{flat_map}
use Rattle.box_tree.specs.declared.edit.EditFault.{EditFault}
use Rattle.box_tree.specs.declared.edit.EditFault.TheVariants as edit_fault
use Rattle.box_tree.specs.Edited.{fault_number, fault_name}
use Rattle.mouse_events.specs.declared.event.Event.{Event}
use Rattle.mouse_events.specs.declared.event.EventKind.{EventKind}
use Rattle.mouse_events.specs.declared.event.EventKind.TheVariants as event_kind
use Rattle.script_lines.specs.declared.command.LineFault.{LineFault}
use Rattle.script_lines.specs.declared.command.LineFault.TheVariants as line_fault
use Rattle.script_lines.specs.declared.reply.Reply.{Reply}
use Rattle.script_lines.specs.declared.reply.Reply.TheVariants.{Node, Done, Hit, Top, Events, Line, Edit}

-- a text and its newline
abbrev pub line_of : List ℕ → List ℕ
line_of text = text ++ 10 ∷ []

-- the number of a line fault, and none for want of memory
abbrev pub line_fault_number : LineFault → Option ℕ
line_fault_number line_fault.Long = Some 1
line_fault_number line_fault.Syntax = Some 2
line_fault_number line_fault.Command = Some 3
line_fault_number line_fault.OutOfMemory = None

-- the name of a line fault
abbrev pub line_fault_name : LineFault → List ℕ
line_fault_name line_fault.Long = codes "long"
line_fault_name line_fault.Syntax = codes "syntax"
line_fault_name line_fault.Command = codes "command"
line_fault_name line_fault.OutOfMemory = codes "memory"

-- the line of a fault by its number and name; what has no number has no line
abbrev pub fault_line : Option ℕ → List ℕ → List ℕ
fault_line (Some number) name = line_of (codes "err " ++ decimal number ++ codes " " ++ name)
fault_line None name = []

-- a space and a number
abbrev pub listed : ℕ → List ℕ
listed id = 32 ∷ decimal id

-- the line of the members that a point hits
abbrev pub hit_line : List ℕ → List ℕ
hit_line ids = line_of (codes "hit" ++ flat_map listed ids)

-- the line of the topmost element, or of none
abbrev pub top_line : Option ℕ → List ℕ
top_line (Some id) = line_of (codes "top " ++ decimal id)
top_line None = line_of (codes "top null")

-- the name of what an event tells: that of UI Events without `mouse`
abbrev pub event_name : EventKind → List ℕ
event_name event_kind.Out = codes "out"
event_name event_kind.Leave = codes "leave"
event_name event_kind.Over = codes "over"
event_name event_kind.Enter = codes "enter"
event_name event_kind.Move = codes "move"

-- the id of a related element, and a dash for none
abbrev pub related_name : Option ℕ → List ℕ
related_name None = codes "-"
related_name (Some id) = decimal id

-- a space, what an event tells, and an equals sign
abbrev pub listed_kind : EventKind → List ℕ
listed_kind kind = codes " " ++ (event_name kind ++ codes "=")

-- a space and an event: what it tells, its target and the related element
abbrev pub listed_event : Event → List ℕ
listed_event event = listed_kind event.kind ++ (decimal event.target ++ (codes ":" ++ related_name event.related))

-- the line of some events
abbrev pub events_line : List Event → List ℕ
events_line events = line_of (codes "events" ++ flat_map listed_event events)

-- the line of an accepted add, by the id of the new node
abbrev pub node_line : ℕ → List ℕ
node_line id = line_of (codes "node " ++ decimal id)

-- the line of any other accepted edit
abbrev pub done_line : List ℕ
done_line = line_of (codes "ok")

abbrev pub line_fault_line : LineFault → List ℕ
line_fault_line why = fault_line (line_fault_number why) (line_fault_name why)

abbrev pub edit_fault_line : EditFault → List ℕ
edit_fault_line why = fault_line (fault_number why) (fault_name why)

-- the line of a reply, its numbers in decimal without leading zeros
abbrev pub reply_line : Reply → List ℕ
reply_line (Node id) = node_line id
reply_line Done = done_line
reply_line (Hit ids) = hit_line ids.now
reply_line (Top id) = top_line id
reply_line (Events events) = events_line events.now
reply_line (Line why) = line_fault_line why
reply_line (Edit why) = edit_fault_line why

-- the reply is no want of memory, which has no line
abbrev pub HasLine : Reply → Type 0
HasLine (Line line_fault.OutOfMemory) = ⊥
HasLine (Edit edit_fault.OutOfMemory) = ⊥
HasLine reply = Unit {0}

-- a list begins with another
abbrev pub Keeps : List ℕ → List ℕ → Type 0
Keeps old new = take (length old) new ≡ old
