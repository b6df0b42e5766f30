-- How far a run has come after some bytes of its script, where the ends and the desk tell.
use Rattle.std.proofs.Common.{◌≡◌, ◌≤◌, ◌+◌, ◌-◌, ℕ, min, List, [], ◌++◌, length, take, drop, Option, Some, None, option_map, inl, inr, refl, ap, sym, ◌∙◌, append_assoc, arith}
use Rattle.std.proofs.lemmas.Option.{none-some, same_Some}
use Rattle.std.proofs.lemmas.List.{append-nil, take_at, drop_at, drop-drop, length-append, length-drop, take_min, take-append-le}
use Rattle.std.proofs.Math.Nat.{min-le_right}
use Rattle.std.proofs.Math.Seq.{take-add, take-append-add}
use Rattle.box_tree.specs.Contents.{Contents}
use Rattle.mouse_events.specs.State.{State}
use Rattle.hit_script.specs.Answered.{Known, Answers, Hands, known, scene_of}
use Rattle.hit_script.specs.Cutting.{Counted, counted}
use Rattle.hit_script.specs.Ending.{Moment}
use Rattle.hit_script.specs.Ends.{Read, Rose, TakesAll, TakesFront}
use Rattle.hit_script.specs.Lines.{HasBegun, lines, whole_lines, unfinished}
use Rattle.hit_script.specs.Log.{Entry, Grows}
use Rattle.hit_script.specs.Script.{Scene, first_pointer, opening, replies_from, scene_behind}
use Rattle.hit_script.proofs.Answering.{answers_nothing, answers_both}
use Rattle.hit_script.proofs.CutLaws.{count-counted, length-unfinished}
use Rattle.hit_script.proofs.LineLaws.{no_newline, newline_not_unfinished, unfinished_more, no_lines, nothing_unfinished, nothing_whole}
use Rattle.hit_script.proofs.Logs.{grows_same, grows_both}
use Rattle.hit_script.proofs.Runs.{lines_more}

-- What a sink takes, one part after another.

pub takes_nothing : (t : Option (List ℕ)) → TakesAll t t []
takes_nothing None = refl
takes_nothing (Some t) = ap Some (sym (append-nil t))

pub takes_both : (a b c : Option (List ℕ)) (xs ys : List ℕ) → TakesAll a b xs → TakesAll b c ys → TakesAll a c (xs ++ ys)
takes_both None b c xs ys first second = second ∙ ap (option_map (λ t. t ++ ys)) first
takes_both (Some a) b c xs ys first second = second ∙ ap (option_map (λ t. t ++ ys)) first ∙ ap Some (append_assoc a xs ys)

pub all_is_front : (a b : Option (List ℕ)) (xs more : List ℕ) → TakesAll a b xs → TakesFront a b (xs ++ more)
all_is_front a b xs more all = (length xs, rw (take_at xs more (length xs) refl) all)

pub front_behind : (a b c : Option (List ℕ)) (xs ys more : List ℕ) → TakesAll a b xs → TakesFront b c ys → TakesFront a c (xs ++ (ys ++ more))
front_behind a b c xs ys more all front =
    let n = min front.0 (length ys) in
    let cut : take (length xs + n) (xs ++ (ys ++ more)) ≡ xs ++ take front.0 ys =
    rw (take-append-add xs (ys ++ more) n, take-append-le n ys more (min-le_right front.0 (length ys)), take_min front.0 ys) refl in
    (length xs + n, rw cut (takes_both a b c xs (take front.0 ys) all front.1))

-- What was handed to a sink for some lines, and then for more.
pub hands_both : (xs ys : List (List ℕ)) (first : Option (List ℕ)) {now0 now1 now2 : Known} {second third : Option (List ℕ)} → Hands (Answers xs now0 now1) first second → Hands (Answers ys now1 now2) second third → Hands (Answers (xs ++ ys) now0 now2) first third
hands_both xs ys first {now0} {now1} {now2} {second} {third} (text, took, answers) (more, took_more, others) =
    (text ++ more, takes_both first second third text more took took_more, answers_both xs ys answers others)

-- what is known at a moment, with the pointer then
abbrev pub known_at : Moment → State → Known
known_at now pointer = known now.page now.log pointer

-- A run that has come from the start to here has read so many bytes: the sink has taken the replies to the lines that are
-- whole, the line that is only begun is kept, and no count of faults fell.
pub record Stands (start now : Moment) (read : ℕ) (begun : List ℕ) (pointer : State) : Type 0 where
  pub left_is : (script : List ℕ) → start.left ≡ Some script → now.left ≡ Some (drop read script)
  pub within : (script : List ℕ) → start.left ≡ Some script → read ≤ length script
  pub begun_is : (script : List ℕ) → start.left ≡ Some script → begun ≡ unfinished (take read script)
  pub answered : (script : List ℕ) → start.left ≡ Some script → Hands (Answers (lines (whole_lines (take read script))) (known_at start first_pointer) (known_at now pointer)) start.taken now.taken
  pub log_grows : Grows start.log now.log
  pub read_faults : start.read_faults ≤ now.read_faults
  pub write_faults : start.write_faults ≤ now.write_faults

pub stands_first : (start : Moment) → Stands start start 0 [] first_pointer
stands_first start = record {
  left_is = λ script told. told;
  within = λ script told. omega arith;
  begun_is = λ script told. sym nothing_unfinished;
  answered = λ script told. rw (nothing_whole, no_lines) ([], takes_nothing start.taken, answers_nothing (known_at start first_pointer));
  log_grows = grows_same start.log;
  read_faults = omega arith;
  write_faults = omega arith;
}

-- The same by what a cutter has counted.
pub record Reads (start now : Moment) (read : ℕ) (cutter : Counted) (pointer : State) : Type 0 where
  pub begun : List ℕ
  pub has_begun : HasBegun cutter begun
  pub short : length begun ≤ read
  pub stands : Stands start now read begun pointer

pub reads_first : (start : Moment) → Reads start start 0 (counted []) first_pointer
reads_first start = record { begun = []; has_begun = record { counts = refl; open_line = no_newline }; short = omega arith; stands = stands_first start }

pub count_within : {start now : Moment} {read : ℕ} {cutter : Counted} {pointer : State} → Reads start now read cutter pointer → cutter.count ≤ read
count_within {start} {now} {read} {cutter} {pointer} reads = omega (arith, reads.short, ap (λ (c : Counted). c.count) reads.has_begun.counts ∙ count-counted reads.begun)

-- the page of a scene that is told
pub page_of_scene : (page : Option Contents) (log : Option (List Entry)) (pointer : State) (scene : Scene) → scene_of (known page log pointer) ≡ Some scene → page ≡ Some scene.page
page_of_scene None log pointer scene is = absurd (none-some scene is)
page_of_scene (Some page) log pointer scene is = ap (λ (s : Scene). Some s.page) (same_Some _ _ is)

-- The scene, and what the sink has taken, where the page at the start is told.
module _ {start now : Moment} {read : ℕ} {begun : List ℕ} {pointer : State} (stands : Stands start now read begun pointer) (script : List ℕ) (first : Contents) (told : start.left ≡ Some script) (told_page : start.page ≡ Some first) where
  told_scene : scene_of (known_at start first_pointer) ≡ Some (opening first)
  told_scene = ap (λ (o : Option Contents). scene_of (known o start.log first_pointer)) told_page

  pub scene_now : scene_of (known_at now pointer) ≡ Some (scene_behind (opening first) (lines (whole_lines (take read script))))
  scene_now = (stands.answered script told).2.moves (opening first) told_scene

  pub page_now : now.page ≡ Some (scene_behind (opening first) (lines (whole_lines (take read script)))).page
  page_now = page_of_scene now.page now.log pointer _ scene_now

  pub taken_now : TakesAll start.taken now.taken (replies_from (opening first) (lines (whole_lines (take read script))))
  taken_now = let handed = stands.answered script told in rw (← handed.2.by_scene (opening first) told_scene) handed.1

-- The bytes that are read next.

pub left_more : (left left' : Option (List ℕ)) (bytes script : List ℕ) (read : ℕ) → left ≡ Some (drop read script) → Read left bytes left' → (rest : List ℕ) × (left' ≡ Some rest) × (drop read script ≡ bytes ++ rest)
left_more left None bytes script read told reads = absurd (none-some (drop read script) (sym reads ∙ told))
left_more left (Some rest) bytes script read told reads = (rest, refl, same_Some _ _ (sym told ∙ reads))

pub read_rest : (bytes rest script : List ℕ) (read : ℕ) → drop read script ≡ bytes ++ rest → drop (read + length bytes) script ≡ rest
read_rest bytes rest script read split = sym (drop-drop (length bytes) read script) ∙ ap (drop (length bytes)) split ∙ drop_at bytes rest (length bytes) refl

pub read_front : (bytes rest script : List ℕ) (read : ℕ) → drop read script ≡ bytes ++ rest → take (read + length bytes) script ≡ take read script ++ bytes
read_front bytes rest script read split = take-add read (length bytes) script ∙ ap (λ b. take read script ++ b) (ap (take (length bytes)) split ∙ take_at bytes rest (length bytes) refl)

pub read_within : (bytes rest script : List ℕ) (read : ℕ) → read ≤ length script → drop read script ≡ bytes ++ rest → read + length bytes ≤ length script
read_within bytes rest script read within split =
    let count : length script - read ≡ length bytes + length rest = sym (length-drop read script) ∙ ap length split ∙ length-append bytes rest in
    omega arith

pub stands_more : {start now : Moment} {read : ℕ} {begun : List ℕ} {pointer : State} (next : Moment) (pointer' : State) (bytes begun' : List ℕ)
    → Stands start now read begun pointer
    → Read now.left bytes next.left
    → begun' ≡ unfinished (begun ++ bytes)
    → Hands (Answers (lines (whole_lines (begun ++ bytes))) (known_at now pointer) (known_at next pointer')) now.taken next.taken
    → Grows now.log next.log
    → now.read_faults ≤ next.read_faults
    → now.write_faults ≤ next.write_faults
    → Stands start next (read + length bytes) begun' pointer'
stands_more {start} {now} {read} {begun} {pointer} next pointer' bytes begun' stands reads goes_on handed grows reads_on writes_on = record {
  left_is = λ script told.
      let more = left_more now.left next.left bytes script read (stands.left_is script told) reads in
      more.1 ∙ ap Some (sym (read_rest bytes more.0 script read more.2));
  within = λ script told.
      let more = left_more now.left next.left bytes script read (stands.left_is script told) reads in
      read_within bytes more.0 script read (stands.within script told) more.2;
  begun_is = λ script told.
      let more = left_more now.left next.left bytes script read (stands.left_is script told) reads in
      rw (goes_on, stands.begun_is script told, read_front bytes more.0 script read more.2) (sym (unfinished_more (take read script) bytes));
  answered = λ script told.
      let more = left_more now.left next.left bytes script read (stands.left_is script told) reads in
      let so_far = lines (whole_lines (take read script)) in
      let both = hands_both so_far (lines (whole_lines (begun ++ bytes))) start.taken (stands.answered script told) handed in
      rw (read_front bytes more.0 script read more.2, lines_more (take read script) bytes, ← stands.begun_is script told) both;
  log_grows = grows_both stands.log_grows grows;
  read_faults = omega (arith, stands.read_faults, reads_on);
  write_faults = omega (arith, stands.write_faults, writes_on);
}

-- The same by what a cutter has counted.
pub reads_more : {start now : Moment} {read : ℕ} {cutter : Counted} {pointer : State} (next : Moment) (pointer' : State) (bytes : List ℕ) (cutter' : Counted) (reads : Reads start now read cutter pointer)
    → Read now.left bytes next.left
    → cutter' ≡ counted (unfinished (reads.begun ++ bytes))
    → Hands (Answers (lines (whole_lines (reads.begun ++ bytes))) (known_at now pointer) (known_at next pointer')) now.taken next.taken
    → Grows now.log next.log
    → now.read_faults ≤ next.read_faults
    → now.write_faults ≤ next.write_faults
    → Reads start next (read + length bytes) cutter' pointer'
reads_more {start} {now} {read} {cutter} {pointer} next pointer' bytes cutter' reads taken counts handed grows reads_on writes_on = record {
  begun = unfinished (reads.begun ++ bytes);
  has_begun = record { counts = counts; open_line = newline_not_unfinished (reads.begun ++ bytes) };
  short = omega (arith, length-unfinished (reads.begun ++ bytes), length-append reads.begun bytes, reads.short);
  stands = stands_more next pointer' bytes (unfinished (reads.begun ++ bytes)) reads.stands taken refl handed grows reads_on writes_on;
}

-- A count that rose after it did not fall rose.
pub rose_since : (a b c : ℕ) → a ≤ b → Rose b c → Rose a c
rose_since a b c kept (inl more) = inl (omega arith)
rose_since a b c kept (inr last) = inr last
