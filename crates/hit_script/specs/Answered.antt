-- What a desk that was asked for some lines, and the pointer with it, tell of the text that was written for them.
use Rattle.std.specs.Prelude.{◌≡◌, ℕ, ℤ, Bool, List, ◌++◌, Option, Some, option_map, IfSome, Result}
use Rattle.box_tree.specs.Contents.{Contents, IsWithin}
use Rattle.mouse_events.specs.State.{State}
use Rattle.script_lines.specs.declared.command.Command.{Command}
use Rattle.script_lines.specs.declared.command.LineFault.{LineFault}
use Rattle.hit_script.specs.Ends.{TakesAll}
use Rattle.hit_script.specs.Log.{Entry, Scripted, IsFollowedBy, scripted_command, scripted_lines, scripted_turn}
use Rattle.hit_script.specs.Script.{Scene, Answer, answer_to_command, answer_to_turn, replies_from, scene_behind}

-- the pointer was nowhere yet, or its spot is within the limits
abbrev pub IsSpotted : State → Type 0
IsSpotted pointer = IfSome pointer.spot (λ spot. IsWithin 26 spot.0 × IsWithin 26 spot.1)

-- what is known at a moment: the page and the log, where the desk tells them, and the pointer
pub record Known : Type 0 where
  pub page : Option Contents
  pub log : Option (List Entry)
  pub pointer : State

abbrev pub known : Option Contents → Option (List Entry) → State → Known
known page log pointer = record { page = page; log = log; pointer = pointer }

-- the page and the pointer, where the page is told
abbrev pub scene_of : Known → Option Scene
scene_of now = option_map (λ page. record { page = page; pointer = now.pointer }) now.page

-- a log that is told goes on with entries that make something of what was asked, whatever comes behind them
pub record IsScripted (make : List Entry → Option Scripted) (old : Option (List Entry)) (after : List Entry) (text : List ℕ) (pointer : State) : Type 0 where
  pub entries : List Entry
  pub follows : IsFollowedBy old entries after
  pub makes : (rest : List Entry) → make (entries ++ rest) ≡ Some (record { text = text; pointer = pointer; rest = rest })

-- this was known before and that afterwards, and this text is the answer by the scene and by the log
pub record IsAnswered (answer : Scene → Answer) (make : State → List Entry → Option Scripted) (before after : Known) (text : List ℕ) : Type 0 where
  pub moves : (was : Scene) → scene_of before ≡ Some was → scene_of after ≡ Some (answer was).scene
  pub by_scene : (was : Scene) → scene_of before ≡ Some was → text ≡ (answer was).reply
  pub by_log : (log : List Entry) → after.log ≡ Some log → IsScripted (make before.pointer) before.log log text after.pointer

-- a turn of the pointer at a spot
abbrev pub Turns : (x y : ℤ) → (moved : Bool) → (before after : Known) (text : List ℕ) → Type 0
Turns x y moved = IsAnswered (λ was. answer_to_turn was x y moved) (λ pointer log. scripted_turn pointer x y moved log)

-- one command
abbrev pub Replies : Result Command LineFault → (before after : Known) (text : List ℕ) → Type 0
Replies asked = IsAnswered (λ was. answer_to_command was asked) (scripted_command asked)

-- one command that leaves the pointer as it is
pub record RepliesBeside (asked : Result Command LineFault) (pointer : State) (page0 page : Option Contents) (log0 log : Option (List Entry)) (text : List ℕ) : Type 0 where
  pub moves : (was : Contents) → page0 ≡ Some was → page ≡ Some (answer_to_command (record { page = was; pointer = pointer }) asked).scene.page
  pub by_page : (was : Contents) → page0 ≡ Some was → text ≡ (answer_to_command (record { page = was; pointer = pointer }) asked).reply
  pub by_log : (after : List Entry) → log ≡ Some after → IsScripted (scripted_command asked pointer) log0 after text pointer

-- what some lines are answered with
abbrev pub answer_to_lines : List (List ℕ) → Scene → Answer
answer_to_lines asked was = record { reply = replies_from was asked; scene = scene_behind was asked }

-- lines
abbrev pub Answers : List (List ℕ) → (before after : Known) (text : List ℕ) → Type 0
Answers asked = IsAnswered (answer_to_lines asked) (scripted_lines asked)

-- the text was put behind what was there
abbrev pub Appends : (List ℕ → Type 0) → List ℕ → List ℕ → Type 0
Appends IsText old new = (text : List ℕ) × (new ≡ old ++ text) × IsText text

-- the text was handed to a sink
abbrev pub Hands : (List ℕ → Type 0) → Option (List ℕ) → Option (List ℕ) → Type 0
Hands IsText before after = (text : List ℕ) × TakesAll before after text × IsText text
