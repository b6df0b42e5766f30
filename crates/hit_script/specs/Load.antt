-- The load: a script of its own that makes a page of many blocks and asks what lies under sixteen points, and the line
-- that sums its replies up.
use Rattle.std.specs.Prelude.{ℕ, ◌+◌, ◌*◌, ◌/◌, ◌%◌, ◌==◌, List, [], ◌∷◌, ◌++◌, map, sum, length, codes, decimal, if◌then◌else◌, Option, Some, None, option_map, option_and_then, Result, Ok, Err}
use Rattle.std.specs.List.{flat_map, range_with_len}
use Rattle.std.specs.Option.{option_map_or}
use Rattle.box_tree.specs.Contents.{Contents}
use Rattle.box_tree.specs.Edited.{answer_of}
use Rattle.box_tree.specs.declared.edit.Done.{Done}
use Rattle.box_tree.specs.declared.edit.Done.TheVariants as done
use Rattle.box_tree.specs.declared.edit.Edit.{Edit}
use Rattle.box_tree.specs.declared.edit.EditFault.{EditFault}
use Rattle.point_query.specs.Elements.{elements_from_point}
use Rattle.script_lines.specs.declared.command.Command.{Command}
use Rattle.script_lines.specs.declared.command.Command.TheVariants as command
use Rattle.script_lines.specs.declared.command.LineFault.{LineFault}
use Rattle.tree_edits.specs.Edits.{first_fault}
use Rattle.hit_script.specs.Log.{Entry, EditEntry, HitEntry, scripted_lines, text_if_none}
use Rattle.hit_script.specs.Script.{Scene, answer_to, asked_by, first_page, first_pointer, opening, scene_behind}
use Rattle.hit_script.specs.declared.counts.Counts.{Counts}
use Rattle.hit_script.specs.declared.load.Sides.{Sides}

-- The script of a load.

-- where the node of an add goes
abbrev pub place_text : (parent at : ℕ) → List ℕ
place_text parent at = codes "{\"op\":\"add\",\"parent\":" ++ (decimal parent ++ (codes ",\"at\":" ++ decimal at))

-- a block's one box, in units of 1/64 px
abbrev pub box_text : Sides → List ℕ
box_text sides = codes ",\"kind\":\"block\",\"boxes\":[[0," ++ (decimal sides.left ++ (codes "," ++ (decimal sides.top ++ (codes "," ++ (decimal sides.width ++ (codes "," ++ (decimal sides.height ++ codes "]]")))))))

-- the line of an add of a block with one box
abbrev pub add_line : (parent at : ℕ) → Sides → (style : List ℕ) → List ℕ
add_line parent at sides style = place_text parent at ++ box_text sides ++ codes ",\"style\":" ++ style ++ codes "}"

-- the line of a query
abbrev pub query_line : (x y : ℕ) → List ℕ
query_line x y = codes "{\"op\":\"hit\",\"x\":" ++ (decimal x ++ (codes ",\"y\":" ++ (decimal y ++ codes "}")))

-- the whole viewport
abbrev pub view_sides : Sides
view_sides = record { left = 0; top = 0; width = 81920; height = 46080 }

-- the root
abbrev pub root_line : List ℕ
root_line = add_line 0 0 view_sides (codes "{}")

-- a section of the page: a positioned block as large as the viewport, at one of three levels
abbrev pub section_style : ℕ → List ℕ
section_style section = codes "{\"position\":\"relative\",\"z\":" ++ (decimal (section % 3) ++ codes "}")

abbrev pub section_line : ℕ → List ℕ
section_line section = add_line 1 section view_sides (section_style section)

-- the id of the node that a section's line makes: the root has the id 1, and each section before has a hundred blocks
abbrev pub section_node : ℕ → ℕ
section_node section = 2 + 101 * section

-- the side of a block, from 20 to 79 px
abbrev pub block_side : ℕ → ℕ
block_side i = 64 * (20 + i % 60)

abbrev pub block_sides : ℕ → Sides
block_sides i = record { left = 64 * (37 * i % 1200); top = 64 * (53 * i % 640); width = block_side i; height = block_side i }

-- every fourth block is turned
abbrev pub block_style : ℕ → List ℕ
block_style i = if i % 4 == 3 then codes "{\"transform\":[[\"matrix\",3,4,-4,3,0,0,5]]}" else codes "{}"

-- a block, which stands in the section of its hundred
abbrev pub block_line : ℕ → List ℕ
block_line i = add_line (section_node (i / 100)) (i % 100) (block_sides i) (block_style i)

-- the section that begins at a block: at the first of each hundred
abbrev pub section_lines : ℕ → List (List ℕ)
section_lines i = if i % 100 == 0 then section_line (i / 100) ∷ [] else []

abbrev pub block_lines : ℕ → List (List ℕ)
block_lines i = section_lines i ++ block_line i ∷ []

-- a point on the diagonal of the viewport
abbrev pub diagonal_line : ℕ → List ℕ
diagonal_line j = query_line (5120 * j) (2880 * j)

-- the lines of the load of so many blocks
abbrev pub load_lines : ℕ → List (List ℕ)
load_lines count = root_line ∷ (flat_map block_lines (range_with_len 0 count) ++ map diagonal_line (range_with_len 0 16))

-- The summary.

abbrev pub nothing_counted : Counts
nothing_counted = record { nodes = 0; listed = 0; sum = 0 }

abbrev pub one_node : Counts
one_node = record { nodes = 1; listed = 0; sum = 0 }

abbrev pub counted_members : List ℕ → Counts
counted_members ids = record { nodes = 0; listed = length ids; sum = sum ids }

abbrev pub counted_both : Counts → Counts → Counts
counted_both some more = record { nodes = some.nodes + more.nodes; listed = some.listed + more.listed; sum = some.sum + more.sum }

-- an accepted add counts as a node
abbrev pub counted_done : Done → Counts
counted_done (done.Node id) = one_node
counted_done done.Done = nothing_counted

-- an edit as a desk answered it
abbrev pub counted_answer : Result Done EditFault → Counts
counted_answer (Ok what) = counted_done what
counted_answer (Err why) = nothing_counted

abbrev pub counted_edit : Contents → Edit → Option EditFault → Counts
counted_edit page edit None = counted_done (answer_of page edit)
counted_edit page edit (Some why) = nothing_counted

-- what the reply to a command counts: a new node, or the elements under a point
abbrev pub counted_command : Scene → Result Command LineFault → Counts
counted_command scene (Ok (command.Edit edit)) = counted_edit scene.page edit (first_fault scene.page edit)
counted_command scene (Ok (command.Hit x y)) = counted_members (elements_from_point scene.page x y)
counted_command scene asked = nothing_counted

abbrev pub counted_line : Scene → List ℕ → Counts
counted_line scene line = option_map_or (counted_command scene) (asked_by line) nothing_counted

-- what the replies to some lines count, each from the scene that the lines before it left
abbrev pub counted_lines : Scene → List (List ℕ) → Counts
counted_lines scene [] = nothing_counted
counted_lines scene (line ∷ others) = counted_both (counted_line scene line) (counted_lines (answer_to scene line).scene others)

-- the line of a summary
abbrev pub summary_line : ℕ → Counts → List ℕ
summary_line count counts =
    codes "load " ++ (decimal count ++ (codes " nodes " ++ (decimal counts.nodes ++ (codes " listed " ++ (decimal counts.listed ++ (codes " sum " ++ (decimal counts.sum ++ codes "\n")))))))

-- the summary of a load
abbrev pub load_summary : ℕ → List ℕ
load_summary count = summary_line count (counted_lines (opening first_page) (load_lines count))

-- the page behind a load
abbrev pub page_after_load : ℕ → Contents
page_after_load count = (scene_behind (opening first_page) (load_lines count)).page

-- The same by a log, where no page is known.

abbrev pub counted_entry : Entry → Counts
counted_entry (EditEntry answer) = counted_answer answer
counted_entry (HitEntry x y members) = counted_members members
counted_entry entry = nothing_counted

abbrev pub counted_log : List Entry → Counts
counted_log [] = nothing_counted
counted_log (entry ∷ log) = counted_both (counted_entry entry) (counted_log log)

-- the summary of a load by a log; there is none where the log makes no replies to the lines of the load
abbrev pub counted_summary : ℕ → List Entry → Option (List ℕ)
counted_summary count log = option_and_then (λ made. option_map (λ replied. summary_line count (counted_log log)) (text_if_none made.text made.rest)) (scripted_lines (load_lines count) first_pointer log)
