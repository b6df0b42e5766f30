-- What a desk was asked and what it answered, and the replies to a script that its answers make. No page is known here.
use Rattle.std.specs.Prelude.{◌≡◌, ℕ, ℤ, Bool, true, false, List, [], ◌∷◌, ◌++◌, ◌&&◌, ◌==◌, if◌then◌else◌, Option, Some, None, option_map, option_and_then, Result, Ok, Err}
use Rattle.std.specs.Option.{option_map_or}
use Rattle.std.specs.Ordering.{int_eq}
use Rattle.box_tree.specs.declared.edit.Done.{Done}
use Rattle.box_tree.specs.declared.edit.EditFault.{EditFault}
use Rattle.box_tree.specs.declared.edit.EditFault.TheVariants as edit_fault
use Rattle.mouse_events.specs.State.{State}
use Rattle.mouse_events.specs.Events.{events_between}
use Rattle.script_lines.specs.Reply.{hit_line, top_line, events_line, line_fault_line, edit_fault_line}
use Rattle.script_lines.specs.declared.command.Command.{Command}
use Rattle.script_lines.specs.declared.command.Command.TheVariants as command
use Rattle.script_lines.specs.declared.command.LineFault.{LineFault}
use Rattle.hit_script.specs.Lines.{lines}
use Rattle.hit_script.specs.Script.{accepted_line, asked_by, first_pointer}

-- an entry of a log: the answer to an edit; a point and the members under it; a point and the topmost of them; an id and
-- the members of its chain; an id and whether it is in the page
pub data Entry : Type 0 where
  EditEntry : Result Done EditFault → Entry
  HitEntry : (x y : ℤ) → (members : List ℕ) → Entry
  TopEntry : (x y : ℤ) → (member : Option ℕ) → Entry
  ChainEntry : (id : ℕ) → (members : List ℕ) → Entry
  HasEntry : (id : ℕ) → (is : Bool) → Entry

-- a log that is this one now was told before, and these entries follow what it was
abbrev pub IsFollowedBy : Option (List Entry) → List Entry → List Entry → Type 0
IsFollowedBy old entries after = (before : List Entry) × (old ≡ Some before) × (after ≡ before ++ entries)

-- a log, where it is told afterwards, has these entries more
abbrev pub LogsAll : Option (List Entry) → Option (List Entry) → List Entry → Type 0
LogsAll old new entries = (after : List Entry) → new ≡ Some after → IsFollowedBy old entries after

-- a log, where it is told afterwards, has one entry more
abbrev pub Logs : Option (List Entry) → Option (List Entry) → Entry → Type 0
Logs old new entry = LogsAll old new (entry ∷ [])

-- the entries of the chain of an element, where there is one
abbrev pub chain_entries : Option ℕ → List ℕ → List Entry
chain_entries None members = []
chain_entries (Some id) members = ChainEntry id members ∷ []

-- the entries of whether each of these ids is in the page
abbrev pub has_entries : List ℕ → List Bool → List Entry
has_entries [] alive = []
has_entries (id ∷ ids) [] = []
has_entries (id ∷ ids) (is ∷ alive) = HasEntry id is ∷ has_entries ids alive

-- a log, where it is told afterwards, goes on
abbrev pub Grows : Option (List Entry) → Option (List Entry) → Type 0
Grows old new = (after : List Entry) → new ≡ Some after → (entries : List Entry) × IsFollowedBy old entries after

-- the line of what a desk answered to an edit; want of memory has none, and ends a run
abbrev pub edit_line : Result Done EditFault → Option (List ℕ)
edit_line (Ok what) = Some (accepted_line what)
edit_line (Err edit_fault.OutOfMemory) = None
edit_line (Err why) = Some (edit_fault_line why)

-- what a log makes of lines: their replies, the pointer behind them, and the entries that are left
pub record Scripted : Type 0 where
  pub text : List ℕ
  pub pointer : State
  pub rest : List Entry

-- what a log answers to a part of a command, and the entries that are left
pub record Told (A : Type 0) : Type 0 where
  pub answer : A
  pub rest : List Entry

-- the same, where the points are the same
abbrev pub at_point : {A : Type 0} → (x y x' y' : ℤ) → A → Option A
at_point x y x' y' made = if int_eq x' x && int_eq y' y then Some made else None

-- the topmost element at a point, by the first entry
abbrev pub told_top : (x y : ℤ) → List Entry → Option (Told (Option ℕ))
told_top x y (TopEntry x' y' member ∷ rest) = at_point x y x' y' (record { answer = member; rest = rest })
told_top x y log = None

-- the chain of that element, by the next entry; without an element it is empty, and takes none
abbrev pub told_chain : Option ℕ → List Entry → Option (Told (List ℕ))
told_chain None log = Some (record { answer = []; rest = log })
told_chain (Some id) (ChainEntry id' members ∷ rest) = if id' == id then Some (record { answer = members; rest = rest }) else None
told_chain (Some id) log = None

-- one flag before others
abbrev pub flag_before : Bool → Told (List Bool) → Told (List Bool)
flag_before is told = record { answer = is ∷ told.answer; rest = told.rest }

-- whether each member of a chain is in the page, by an entry for each
abbrev pub told_alive : List ℕ → List Entry → Option (Told (List Bool))
told_alive [] log = Some (record { answer = []; rest = log })
told_alive (id ∷ ids) (HasEntry id' is ∷ rest) = if id' == id then option_map (flag_before is) (told_alive ids rest) else None
told_alive (id ∷ ids) log = None

-- the reply to a turn from the kept chain to a new one, by an entry for each member of the kept one
abbrev pub scripted_change : State → (x y : ℤ) → (moved : Bool) → Told (List ℕ) → Option Scripted
scripted_change pointer x y moved new = option_map (λ alive. record {
  text = events_line (events_between pointer.chain alive.answer new.answer moved);
  pointer = record { spot = Some (x, y); chain = new.answer };
  rest = alive.rest;
}) (told_alive pointer.chain new.rest)

-- the reply to a turn of the pointer at a spot: first the topmost element there, then its chain, then the kept members
abbrev pub scripted_turn : State → (x y : ℤ) → (moved : Bool) → List Entry → Option Scripted
scripted_turn pointer x y moved log = option_and_then (λ target. option_and_then (scripted_change pointer x y moved) (told_chain target.answer target.rest)) (told_top x y log)

-- the reply to a turn where the pointer is; it takes no entry where it was nowhere yet
abbrev pub scripted_refresh : State → (spot : Option (ℤ × ℤ)) → List Entry → Option Scripted
scripted_refresh pointer None log = Some (record { text = events_line []; pointer = pointer; rest = log })
scripted_refresh pointer (Some spot) log = scripted_turn pointer spot.0 spot.1 false log

-- the reply to a command by the first entries of a log, which have to be of its kind and with its numbers; the line of a
-- fault takes none
abbrev pub scripted_command : Result Command LineFault → State → List Entry → Option Scripted
scripted_command (Ok (command.Edit edit)) pointer (EditEntry answer ∷ rest) = option_map (λ text. record { text = text; pointer = pointer; rest = rest }) (edit_line answer)
scripted_command (Ok (command.Hit x y)) pointer (HitEntry x' y' members ∷ rest) = at_point x y x' y' (record { text = hit_line members; pointer = pointer; rest = rest })
scripted_command (Ok (command.Top x y)) pointer (TopEntry x' y' member ∷ rest) = at_point x y x' y' (record { text = top_line member; pointer = pointer; rest = rest })
scripted_command (Ok (command.Point x y)) pointer log = scripted_turn pointer x y true log
scripted_command (Ok command.Refresh) pointer log = scripted_refresh pointer pointer.spot log
scripted_command (Err why) pointer log = Some (record { text = line_fault_line why; pointer = pointer; rest = log })
scripted_command asked pointer log = None

-- a line; one that asks for nothing takes no entry and has no reply
abbrev pub scripted_line : List ℕ → State → List Entry → Option Scripted
scripted_line line pointer log = option_map_or (λ asked. scripted_command asked pointer log) (asked_by line) (Some (record { text = []; pointer = pointer; rest = log }))

-- a text before what the entries that are left make of more lines
abbrev pub text_before : List ℕ → Option Scripted → Option Scripted
text_before text None = None
text_before text (Some more) = Some (record { text = text ++ more.text; pointer = more.pointer; rest = more.rest })

-- lines, one after another
abbrev pub scripted_lines : List (List ℕ) → State → List Entry → Option Scripted
scripted_lines [] pointer log = Some (record { text = []; pointer = pointer; rest = log })
scripted_lines (line ∷ others) pointer log = option_and_then (λ first. text_before first.text (scripted_lines others first.pointer first.rest)) (scripted_line line pointer log)

-- the text, where no entry is left
abbrev pub text_if_none : List ℕ → List Entry → Option (List ℕ)
text_if_none text [] = Some text
text_if_none text (entry ∷ rest) = None

-- the replies to a script by a log; there are none where an entry is missing, left over, of another kind, with other
-- numbers or a want of memory
abbrev pub scripted_replies : List ℕ → List Entry → Option (List ℕ)
scripted_replies script log = option_and_then (λ made. text_if_none made.text made.rest) (scripted_lines (lines script) first_pointer log)
