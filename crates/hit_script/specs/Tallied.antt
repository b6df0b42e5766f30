-- What is counted of the answers of a desk that was asked for the lines of a load.
use Rattle.std.specs.Prelude.{◌≡◌, ◌⊎◌, ℕ, List, ◌++◌, Option, Some, IsSomeAnd, Result}
use Rattle.box_tree.specs.Contents.{Contents}
use Rattle.mouse_events.specs.State.{State}
use Rattle.script_lines.specs.declared.command.Command.{Command}
use Rattle.script_lines.specs.declared.command.LineFault.{LineFault}
use Rattle.hit_script.specs.Answered.{IsAnswered, IsScripted, Known, answer_to_lines, known, scene_of}
use Rattle.hit_script.specs.Ends.{Rose, TakesAll, TakesFront}
use Rattle.hit_script.specs.Load.{counted_both, counted_command, counted_lines, counted_log, counted_summary, load_lines, summary_line}
use Rattle.hit_script.specs.Log.{Entry, Grows, Scripted, scripted_command, scripted_lines}
use Rattle.hit_script.specs.Script.{Answer, Scene, answer_to_command, first_pointer, opening, scene_behind}
use Rattle.hit_script.specs.declared.counts.Counts.{Counts}
use Rattle.hit_script.specs.declared.outcome.Status.{Status}
use Rattle.hit_script.specs.declared.outcome.Status.TheVariants as status

-- a log that is told goes on with entries that make something of what was asked, and count so much
abbrev pub IsCountedLog : (List Entry → Option Scripted) → Option (List Entry) → List Entry → List ℕ → State → Counts → Type 0
IsCountedLog make old after text pointer counts = (one : IsScripted make old after text pointer) × (counts ≡ counted_log one.entries)

-- this was known before and that afterwards, and so much was counted, by the scene and by the log
pub record IsTallied (answer : Scene → Answer) (make : State → List Entry → Option Scripted) (count : Scene → Counts) (before after : Known) (counts : Counts) : Type 0 where
  pub text : List ℕ
  pub answers : IsAnswered answer make before after text
  pub by_scene : (was : Scene) → scene_of before ≡ Some was → counts ≡ count was
  pub by_log : (log : List Entry) → after.log ≡ Some log → IsCountedLog (make before.pointer) before.log log text after.pointer counts

-- one command
abbrev pub TalliesCommand : Result Command LineFault → (before after : Known) (counts : Counts) → Type 0
TalliesCommand asked = IsTallied (λ was. answer_to_command was asked) (scripted_command asked) (λ was. counted_command was asked)

-- lines
abbrev pub Tallies : List (List ℕ) → (before after : Known) (counts : Counts) → Type 0
Tallies asked = IsTallied (answer_to_lines asked) (scripted_lines asked) (λ was. counted_lines was asked)

-- what a desk tells, with the pointer of a load, which is never moved
abbrev pub unmoved : Option Contents → Option (List Entry) → Known
unmoved page log = known page log first_pointer

-- so much was counted besides
abbrev pub Gains : (Counts → Type 0) → Counts → Counts → Type 0
Gains IsCount old new = (more : Counts) × (new ≡ counted_both old more) × IsCount more

-- the summary of a load was handed to a sink
pub record SumsUp (count : ℕ) (before after : Known) (taken0 taken : Option (List ℕ)) : Type 0 where
  pub counts : Counts
  pub tallied : Tallies (load_lines count) before after counts
  pub handed : TakesAll taken0 taken (summary_line count counts)

-- A run with the words of a load of so many blocks ended so.
pub record EndsLoad (how : Status) (count : ℕ) (page0 page : Option Contents) (log0 log : Option (List Entry)) (taken0 taken : Option (List ℕ)) (faults0 faults : ℕ) : Type 0 where
  pub summed : how ≡ status.Done → (first : Contents) → page0 ≡ Some first → TakesAll taken0 taken (summary_line count (counted_lines (opening first) (load_lines count)))
  pub front : (first : Contents) → page0 ≡ Some first → TakesFront taken0 taken (summary_line count (counted_lines (opening first) (load_lines count)))
  pub page_at_end : how ≡ status.Done → (first : Contents) → page0 ≡ Some first → page ≡ Some (scene_behind (opening first) (load_lines count)).page
  pub log_grows : Grows log0 log
  pub counted : how ≡ status.Done → (before entries : List Entry) → log0 ≡ Some before → log ≡ Some (before ++ entries) → IsSomeAnd (counted_summary count entries) (TakesAll taken0 taken)
  pub cause : (how ≡ status.Done) ⊎ ((how ≡ status.Memory) ⊎ ((how ≡ status.WriteFault) × Rose faults0 faults))
