-- How a run without words ends.
use Rattle.std.specs.Prelude.{◌≡◌, ◌≢◌, ℕ, ◌<◌, ◌≤◌, ◌^◌, List, [], ◌++◌, Option, Some, IsSomeAnd, length, drop}
use Rattle.box_tree.specs.Contents.{Contents}
use Rattle.hit_script.specs.Ends.{Rose, TakesAll, TakesFront}
use Rattle.hit_script.specs.Lines.{lines, whole_lines}
use Rattle.hit_script.specs.Log.{Entry, Grows, scripted_replies}
use Rattle.hit_script.specs.Script.{opening, replies_from, scene_behind}
use Rattle.hit_script.specs.declared.outcome.Status.{Status}
use Rattle.hit_script.specs.declared.outcome.Status.TheVariants as status

-- what the ends and the desk of a run tell at a moment
pub record Moment : Type 0 where
  pub left : Option (List ℕ)
  pub taken : Option (List ℕ)
  pub page : Option Contents
  pub log : Option (List Entry)
  pub read_faults : ℕ
  pub write_faults : ℕ

-- A run ended so, by what was told at its start and at its finish.
pub record Ends (how : Status) (start finish : Moment) : Type 0 where
  pub usage : how ≢ status.Usage
  pub replied : how ≡ status.Done → (script : List ℕ) (first : Contents) → start.left ≡ Some script → start.page ≡ Some first → TakesAll start.taken finish.taken (replies_from (opening first) (lines script))
  pub to_the_end : how ≡ status.Done → (script : List ℕ) → start.left ≡ Some script → finish.left ≡ Some []
  pub page_at_end : how ≡ status.Done → (script : List ℕ) (first : Contents) → start.left ≡ Some script → start.page ≡ Some first → finish.page ≡ Some (scene_behind (opening first) (lines script)).page
  pub front : (script : List ℕ) (first : Contents) → start.left ≡ Some script → start.page ≡ Some first → TakesFront start.taken finish.taken (replies_from (opening first) (lines script))
  pub whole : how ≡ status.ReadFault → (read rest : List ℕ) (first : Contents) → start.left ≡ Some (read ++ rest) → finish.left ≡ Some rest → start.page ≡ Some first → TakesAll start.taken finish.taken (replies_from (opening first) (lines (whole_lines read)))
  pub page_at_fault : how ≡ status.ReadFault → (read rest : List ℕ) (first : Contents) → start.left ≡ Some (read ++ rest) → finish.left ≡ Some rest → start.page ≡ Some first → finish.page ≡ Some (scene_behind (opening first) (lines (whole_lines read))).page
  pub log_grows : Grows start.log finish.log
  pub scripted : how ≡ status.Done → (script : List ℕ) (before entries : List Entry) → start.left ≡ Some script → start.log ≡ Some before → finish.log ≡ Some (before ++ entries) → IsSomeAnd (scripted_replies script entries) (TakesAll start.taken finish.taken)
  pub read_fault : how ≡ status.ReadFault → Rose start.read_faults finish.read_faults
  pub write_fault : how ≡ status.WriteFault → Rose start.write_faults finish.write_faults
  pub too_much : how ≡ status.TooMuch → (script : List ℕ) → start.left ≡ Some script → (2 ^ 32 ≤ length script) × (finish.left ≡ Some (drop (2 ^ 32) script))
  pub not_too_much : how ≢ status.TooMuch → (script : List ℕ) → start.left ≡ Some script → (n : ℕ) × (n < 2 ^ 32) × (n ≤ length script) × (finish.left ≡ Some (drop n script))
