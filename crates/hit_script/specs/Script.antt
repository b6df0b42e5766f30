-- The replies to a script: those to its lines, one after another, from the page and the pointer as they then stand.
use Rattle.std.specs.Prelude.{ℕ, ℤ, pos, Bool, true, false, List, [], ◌∷◌, ◌++◌, map, if◌then◌else◌, Option, Some, None, Result, Ok, Err}
use Rattle.std.specs.Option.{option_map_or}
use Rattle.box_tree.specs.Contents.{Contents, empty_page, has_id}
use Rattle.box_tree.specs.Edited.{edited, answer_of}
use Rattle.box_tree.specs.declared.edit.Done.{Done}
use Rattle.box_tree.specs.declared.edit.Done.TheVariants as done
use Rattle.box_tree.specs.declared.edit.Edit.{Edit}
use Rattle.box_tree.specs.declared.edit.EditFault.{EditFault}
use Rattle.mouse_events.specs.State.{State}
use Rattle.mouse_events.specs.Events.{events_between}
use Rattle.point_query.specs.Chain.{chain_of}
use Rattle.point_query.specs.Elements.{elements_from_point, element_from_point}
use Rattle.script_lines.specs.Blank.{is_blank}
use Rattle.script_lines.specs.Command.{is_long, json_reading, command_or_fault}
use Rattle.script_lines.specs.Reply.{node_line, done_line, hit_line, top_line, events_line, line_fault_line, edit_fault_line}
use Rattle.script_lines.specs.declared.command.Command.{Command}
use Rattle.script_lines.specs.declared.command.Command.TheVariants as command
use Rattle.script_lines.specs.declared.command.LineFault.{LineFault}
use Rattle.script_lines.specs.declared.command.LineFault.TheVariants as line_fault
use Rattle.tree_edits.specs.Edits.{first_fault}
use Rattle.hit_script.specs.Lines.{lines}

-- the page that a script begins with: no node, and a viewport of 1,280 by 720 px
abbrev pub first_page : Contents
first_page = empty_page (pos 81920) (pos 46080)

-- the pointer that a script begins with: it was nowhere yet, and is over no element
abbrev pub first_pointer : State
first_pointer = record { spot = None; chain = [] }

-- what a line is answered from: the page and the pointer
pub record Scene : Type 0 where
  pub page : Contents
  pub pointer : State

-- a page with a pointer that was nowhere yet
abbrev pub opening : Contents → Scene
opening page = record { page = page; pointer = first_pointer }

-- What a line is answered with, and the scene behind it.
pub record Answer : Type 0 where
  pub reply : List ℕ
  pub scene : Scene

-- what a line asks for, or its first fault: too long, or blank, which asks for nothing, or read
unfoldable pub asked_by : List ℕ → Option (Result Command LineFault)
asked_by line =
    if is_long line then Some (Err line_fault.Long)
    else if is_blank line then None
    else Some (command_or_fault (json_reading line))

-- the line of what an accepted edit answers
abbrev pub accepted_line : Done → List ℕ
accepted_line (done.Node id) = node_line id
accepted_line done.Done = done_line

-- What an edit is answered with, and the page behind it.
pub record EditAnswer : Type 0 where
  pub reply : List ℕ
  pub page : Contents

-- an edit, refused by its first fault, which changes nothing, or accepted
abbrev pub answer_to_edit : Contents → Edit → Option EditFault → EditAnswer
answer_to_edit page edit (Some why) = record { reply = edit_fault_line why; page = page }
answer_to_edit page edit None = record { reply = accepted_line (answer_of page edit); page = edited page edit }

-- the same on a scene, whose pointer stays
abbrev pub beside_pointer : State → EditAnswer → Answer
beside_pointer pointer answer = record { reply = answer.reply; scene = record { page = answer.page; pointer = pointer } }

-- the chain of the topmost element at a point, and an empty one where there is none
abbrev pub chain_at : Contents → ℤ → ℤ → List ℕ
chain_at page x y = option_map_or (chain_of page) (element_from_point page x y) []

-- a turn of the pointer to what is topmost at a spot (UI Events, "Mouse Event Order"); a member of its chain that isn't in
-- the page any more gets no event
abbrev pub answer_to_turn : Scene → (x y : ℤ) → (moved : Bool) → Answer
answer_to_turn scene x y moved = record {
  reply = events_line (events_between scene.pointer.chain (map (has_id scene.page) scene.pointer.chain) (chain_at scene.page x y) moved);
  scene = record { page = scene.page; pointer = record { spot = Some (x, y); chain = chain_at scene.page x y } };
}

-- a turn of the pointer where it is, and no event where it was nowhere yet
abbrev pub answer_to_refresh : Scene → (spot : Option (ℤ × ℤ)) → Answer
answer_to_refresh scene None = record { reply = events_line []; scene = scene }
answer_to_refresh scene (Some spot) = answer_to_turn scene spot.0 spot.1 false

-- a command, or the fault that a line has in its place
abbrev pub answer_to_command : Scene → Result Command LineFault → Answer
answer_to_command scene (Ok (command.Edit edit)) = beside_pointer scene.pointer (answer_to_edit scene.page edit (first_fault scene.page edit))
answer_to_command scene (Ok (command.Hit x y)) = record { reply = hit_line (elements_from_point scene.page x y); scene = scene }
answer_to_command scene (Ok (command.Top x y)) = record { reply = top_line (element_from_point scene.page x y); scene = scene }
answer_to_command scene (Ok (command.Point x y)) = answer_to_turn scene x y true
answer_to_command scene (Ok command.Refresh) = answer_to_refresh scene scene.pointer.spot
answer_to_command scene (Err why) = record { reply = line_fault_line why; scene = scene }

-- a line; one that asks for nothing has no reply
abbrev pub answer_to : Scene → List ℕ → Answer
answer_to scene line = option_map_or (answer_to_command scene) (asked_by line) (record { reply = []; scene = scene })

-- the replies to some lines, each from the scene that the lines before it left
abbrev pub replies_from : Scene → List (List ℕ) → List ℕ
replies_from scene [] = []
replies_from scene (line ∷ others) = (answer_to scene line).reply ++ replies_from (answer_to scene line).scene others

-- the scene behind some lines
abbrev pub scene_behind : Scene → List (List ℕ) → Scene
scene_behind scene [] = scene
scene_behind scene (line ∷ others) = scene_behind (answer_to scene line).scene others

-- the replies to a script
abbrev pub replies : List ℕ → List ℕ
replies script = replies_from (opening first_page) (lines script)

-- the page behind a script
abbrev pub page_after : List ℕ → Contents
page_after script = (scene_behind (opening first_page) (lines script)).page
