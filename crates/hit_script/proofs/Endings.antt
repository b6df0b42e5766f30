-- How a run ends, by how far it had come.
use Rattle.std.proofs.Common.{◌≡◌, ◌≢◌, ◌<◌, ◌≤◌, ◌+◌, ◌^◌, ℕ, List, [], ◌++◌, length, take, drop, Option, Some, None, Result, Ok, Err, inl, inr, refl, ap, sym, ◌∙◌, append_assoc, arith}
use Rattle.std.specs.Prelude.{IfSome, IsSome, IsSomeAnd, OnOk, OnErr, ◌⊎◌, ◌-◌}
use Rattle.std.proofs.lemmas.Option.{same_Some}
use Rattle.std.proofs.lemmas.Bool.{false≢true}
use Rattle.std.proofs.lemmas.List.{append-nil, take-append-drop, append_cancel_right, append_cancel_left, length-drop}
use Rattle.box_tree.specs.Contents.{Contents}
use Rattle.mouse_events.specs.State.{State}
use Rattle.hit_script.specs.Answered.{Known, Answers, Appends, Hands, known, scene_of}
use Rattle.hit_script.specs.Cutting.{Counted}
use Rattle.hit_script.specs.Ending.{Ends, Moment}
use Rattle.hit_script.specs.Ends.{Read, ReadsAtMost, Rose, TakesAll, TakesFront}
use Rattle.hit_script.specs.Lines.{HasBegun, lines, whole_lines, unfinished}
use Rattle.hit_script.specs.Log.{Entry, Grows, scripted_lines, scripted_replies}
use Rattle.hit_script.specs.Outcome.{fault_status}
use Rattle.hit_script.specs.Script.{Scene, first_page, first_pointer, opening, replies_from, scene_behind}
use Rattle.hit_script.specs.declared.outcome.Status.{Status}
use Rattle.hit_script.specs.declared.outcome.Status.TheVariants as status
use Rattle.hit_script.specs.declared.sinks.SinkFault.{SinkFault}
use Rattle.hit_script.specs.declared.sinks.SinkFault.TheVariants as sink_fault
use Rattle.hit_script.proofs.Logs.{grows_both}
use Rattle.hit_script.proofs.Progress.{Stands, known_at, page_of_scene, scene_now, page_now, taken_now, hands_both, all_is_front, front_behind, left_more, read_rest, read_within}
use Rattle.hit_script.proofs.Runs.{replies_from-append, all_lines_more}

-- The replies to a script, by those to the lines that are whole so far.
all_replies : (first : Scene) (script : List ℕ) (read : ℕ) → replies_from first (lines script) ≡ replies_from first (lines (whole_lines (take read script))) ++ replies_from (scene_behind first (lines (whole_lines (take read script)))) (lines (unfinished (take read script) ++ drop read script))
all_replies first script read =
    let b = take read script in
    ap (λ (s : List ℕ). replies_from first (lines s)) (sym (take-append-drop read script))
    ∙ ap (replies_from first) (all_lines_more b (drop read script))
    ∙ replies_from-append first (lines (whole_lines b)) (lines (unfinished b ++ drop read script))

-- The same, by the bytes that were read next too.
next_replies : (now : Scene) (begun bytes rest left : List ℕ) → left ≡ bytes ++ rest → replies_from now (lines (begun ++ left)) ≡ replies_from now (lines (whole_lines (begun ++ bytes))) ++ replies_from (scene_behind now (lines (whole_lines (begun ++ bytes)))) (lines (unfinished (begun ++ bytes) ++ rest))
next_replies now begun bytes rest left split =
    ap (λ (s : List ℕ). replies_from now (lines (begun ++ s))) split
    ∙ ap (λ (s : List ℕ). replies_from now (lines s)) (sym (append_assoc begun bytes rest))
    ∙ ap (replies_from now) (all_lines_more (begun ++ bytes) rest)
    ∙ replies_from-append now (lines (whole_lines (begun ++ bytes))) (lines (unfinished (begun ++ bytes) ++ rest))

front_as : (a b : Option (List ℕ)) (xs ys : List ℕ) → ys ≡ xs → TakesFront a b xs → TakesFront a b ys
front_as a b xs ys same front = (front.0, rw same front.1)

all_as : (a b : Option (List ℕ)) (xs ys : List ℕ) → ys ≡ xs → TakesAll a b xs → TakesAll a b ys
all_as a b xs ys same all = rw same all

-- What is left after some bytes, fewer than 2^32.
abbrev pub LeftShort : Moment → Moment → Type 0
LeftShort start finish = (script : List ℕ) → start.left ≡ Some script → (n : ℕ) × (n < 2 ^ 32) × (n ≤ length script) × (finish.left ≡ Some (drop n script))

abbrev pub FrontTaken : Moment → Moment → Type 0
FrontTaken start finish = (script : List ℕ) (first : Contents) → start.left ≡ Some script → start.page ≡ Some first → TakesFront start.taken finish.taken (replies_from (opening first) (lines script))

-- the replies to a script, where the line that is begun is its last
last_replies : (first : Scene) (script begun : List ℕ) (read : ℕ) → begun ≡ unfinished (take read script) → drop read script ≡ [] → replies_from first (lines script) ≡ replies_from first (lines (whole_lines (take read script))) ++ replies_from (scene_behind first (lines (whole_lines (take read script)))) (lines begun)
last_replies first script begun read is_begun none =
    let now = scene_behind first (lines (whole_lines (take read script))) in
    let so_far = replies_from first (lines (whole_lines (take read script))) in
    all_replies first script read ∙ ap (λ (s : List ℕ). so_far ++ replies_from now (lines s)) (ap (λ (r : List ℕ). unfinished (take read script) ++ r) none ∙ append-nil (unfinished (take read script)) ∙ sym is_begun)

-- the lines of a script, where the line that is begun is its last
last_lines : (script begun : List ℕ) (read : ℕ) → begun ≡ unfinished (take read script) → drop read script ≡ [] → lines (whole_lines (take read script)) ++ lines begun ≡ lines script
last_lines script begun read is_begun none =
    ap (λ (bytes : List ℕ). lines (whole_lines (take read script)) ++ lines bytes) (is_begun ∙ sym (append-nil (unfinished (take read script))) ∙ ap (λ (r : List ℕ). unfinished (take read script) ++ r) (sym none))
    ∙ sym (all_lines_more (take read script) (drop read script))
    ∙ ap lines (take-append-drop read script)

module _ {start now : Moment} {read : ℕ} {begun : List ℕ} {pointer : State} (stands : Stands start now read begun pointer) where
  -- A front of the replies is taken at each moment.

  pub front_so_far : FrontTaken start now
  front_so_far script first told told_page =
      front_as start.taken now.taken _ _ (all_replies (opening first) script read) (all_is_front start.taken now.taken _ _ (taken_now stands script first told told_page))

  pub front_in_piece : (finish : Moment) (bytes : List ℕ) → Read now.left bytes finish.left
      → ((was : Scene) → scene_of (known_at now pointer) ≡ Some was → TakesFront now.taken finish.taken (replies_from was (lines (whole_lines (begun ++ bytes)))))
      → FrontTaken start finish
  front_in_piece finish bytes reads part script first told told_page =
      let more = left_more now.left finish.left bytes script read (stands.left_is script told) reads in
      let scene = scene_behind (opening first) (lines (whole_lines (take read script))) in
      let next = next_replies scene (unfinished (take read script)) bytes more.0 (drop read script) more.2 in
      let is_begun = stands.begun_is script told in
      let so_far = replies_from (opening first) (lines (whole_lines (take read script))) in
      let front : TakesFront now.taken finish.taken (replies_from scene (lines (whole_lines (unfinished (take read script) ++ bytes)))) = rw is_begun at (part scene (scene_now stands script first told told_page)) in
      front_as start.taken finish.taken _ _ (all_replies (opening first) script read ∙ ap (λ (r : List ℕ). so_far ++ r) next)
      (front_behind start.taken now.taken finish.taken so_far _ _ (taken_now stands script first told told_page) front)

  -- The end of the input.

  pub at_end : (finish : Moment) → Read now.left [] finish.left → IfSome finish.left (λ rest. rest ≡ [])
      → (script : List ℕ) → start.left ≡ Some script → (finish.left ≡ Some []) × (drop read script ≡ [])
  at_end finish reads ended script told =
      let more = left_more now.left finish.left [] script read (stands.left_is script told) reads in
      let none : more.0 ≡ [] = rw more.1 at ended in
      (more.1 ∙ ap Some none, more.2 ∙ none)

  pub front_in_last : (finish : Moment) → Read now.left [] finish.left → IfSome finish.left (λ rest. rest ≡ [])
      → ((was : Scene) → scene_of (known_at now pointer) ≡ Some was → TakesFront now.taken finish.taken (replies_from was (lines begun)))
      → FrontTaken start finish
  front_in_last finish reads ended part script first told told_page =
      let end = at_end finish reads ended script told in
      let scene = scene_behind (opening first) (lines (whole_lines (take read script))) in
      let so_far = replies_from (opening first) (lines (whole_lines (take read script))) in
      let last = replies_from scene (lines begun) in
      front_as start.taken finish.taken _ _ (last_replies (opening first) script begun read (stands.begun_is script told) end.1 ∙ ap (λ (r : List ℕ). so_far ++ r) (sym (append-nil last)))
      (front_behind start.taken now.taken finish.taken so_far last [] (taken_now stands script first told told_page) (part scene (scene_now stands script first told told_page)))

  -- at the end all lines are answered
  all_in_last : (finish : Moment) (pointer' : State) → Read now.left [] finish.left → IfSome finish.left (λ rest. rest ≡ [])
      → Hands (Answers (lines begun) (known_at now pointer) (known_at finish pointer')) now.taken finish.taken
      → (script : List ℕ) → start.left ≡ Some script → Hands (Answers (lines script) (known_at start first_pointer) (known_at finish pointer')) start.taken finish.taken
  all_in_last finish pointer' reads ended handed script told =
      let end = at_end finish reads ended script told in
      rw (← last_lines script begun read (stands.begun_is script told) end.1) (hands_both (lines (whole_lines (take read script))) (lines begun) start.taken (stands.answered script told) handed)

  pub short_so_far : read < 2 ^ 32 → LeftShort start now
  short_so_far below script told = (read, below, stands.within script told, stands.left_is script told)

  pub short_with_piece : (finish : Moment) (bytes : List ℕ) → Read now.left bytes finish.left → read + length bytes < 2 ^ 32 → LeftShort start finish
  short_with_piece finish bytes reads below script told =
      let more = left_more now.left finish.left bytes script read (stands.left_is script told) reads in
      (read + length bytes, below, read_within bytes more.0 script read (stands.within script told) more.2, more.1 ∙ ap Some (sym (read_rest bytes more.0 script read more.2)))

-- A run whose sink failed or wanted memory.
pub ends_by_sink : (fault : SinkFault) (how : Status) (start finish : Moment) → how ≡ fault_status fault → (fault ≡ sink_fault.Failed → Rose start.write_faults finish.write_faults) → FrontTaken start finish → LeftShort start finish → Grows start.log finish.log → Ends how start finish
ends_by_sink sink_fault.Failed how start finish is rose front short grows = record {
  usage = λ e. cc;
  replied = λ e script first told told_page. absurd (cc);
  to_the_end = λ e script told. absurd (cc);
  page_at_end = λ e script first told told_page. absurd (cc);
  front = front;
  whole = λ e read rest first told now told_page. absurd (cc);
  page_at_fault = λ e read rest first told now told_page. absurd (cc);
  log_grows = grows;
  scripted = λ e script before entries told told_log now_log. absurd (cc);
  read_fault = λ e. absurd (cc);
  write_fault = λ e. rose refl;
  too_much = λ e script told. absurd (cc);
  not_too_much = λ e. short;
}
ends_by_sink sink_fault.OutOfMemory how start finish is rose front short grows = record {
  usage = λ e. cc;
  replied = λ e script first told told_page. absurd (cc);
  to_the_end = λ e script told. absurd (cc);
  page_at_end = λ e script first told told_page. absurd (cc);
  front = front;
  whole = λ e read rest first told now told_page. absurd (cc);
  page_at_fault = λ e read rest first told now told_page. absurd (cc);
  log_grows = grows;
  scripted = λ e script before entries told told_log now_log. absurd (cc);
  read_fault = λ e. absurd (cc);
  write_fault = λ e. absurd (cc);
  too_much = λ e script told. absurd (cc);
  not_too_much = λ e. short;
}

-- The whole lines of the bytes that were read.
read_lines : {start now : Moment} {read : ℕ} {begun : List ℕ} {pointer : State} → Stands start now read begun pointer → (bytes rest : List ℕ) → start.left ≡ Some (bytes ++ rest) → now.left ≡ Some rest → take read (bytes ++ rest) ≡ bytes
read_lines {start} {now} {read} {begun} {pointer} stands bytes rest told left_now =
    let left_is : drop read (bytes ++ rest) ≡ rest = same_Some _ _ (sym (stands.left_is (bytes ++ rest) told) ∙ left_now) in
    append_cancel_right (take read (bytes ++ rest)) bytes rest (ap (λ (r : List ℕ). take read (bytes ++ rest) ++ r) (sym left_is) ∙ take-append-drop read (bytes ++ rest))

-- A run whose source failed: the sink has taken the replies to the lines that are whole, and no more.
pub ends_by_source : {start now : Moment} {read : ℕ} {begun : List ℕ} {pointer : State} → Stands start now read begun pointer → read < 2 ^ 32 → (read_faults : ℕ) → Rose start.read_faults read_faults → Ends status.ReadFault start (record now { read_faults = read_faults })
ends_by_source {start} {now} {read} {begun} {pointer} stands below read_faults rose = record {
  usage = λ e. cc;
  replied = λ e script first told told_page. absurd (cc);
  to_the_end = λ e script told. absurd (cc);
  page_at_end = λ e script first told told_page. absurd (cc);
  front = front_so_far stands;
  whole = λ e bytes rest first told left_now told_page. rw (read_lines stands bytes rest told left_now) at (taken_now stands (bytes ++ rest) first told told_page);
  page_at_fault = λ e bytes rest first told left_now told_page. rw (read_lines stands bytes rest told left_now) at (page_now stands (bytes ++ rest) first told told_page);
  log_grows = stands.log_grows;
  scripted = λ e script before entries told told_log now_log. absurd (cc);
  read_fault = λ e. rose;
  write_fault = λ e. absurd (cc);
  too_much = λ e script told. absurd (cc);
  not_too_much = λ e. short_so_far stands below;
}

-- A run that has read all that it may.
pub ends_too_much : {start now : Moment} {read : ℕ} {begun : List ℕ} {pointer : State} → Stands start now read begun pointer → (left : Option (List ℕ)) (read_faults : ℕ) (bytes : List ℕ) → Read now.left bytes left → read + length bytes ≡ 2 ^ 32 → Ends status.TooMuch start (record now { left = left; read_faults = read_faults })
ends_too_much {start} {now} {read} {begun} {pointer} stands left read_faults bytes reads full = record {
  usage = λ e. cc;
  replied = λ e script first told told_page. absurd (cc);
  to_the_end = λ e script told. absurd (cc);
  page_at_end = λ e script first told told_page. absurd (cc);
  front = front_so_far stands;
  whole = λ e read' rest first told left_now told_page. absurd (cc);
  page_at_fault = λ e read' rest first told left_now told_page. absurd (cc);
  log_grows = stands.log_grows;
  scripted = λ e script before entries told told_log now_log. absurd (cc);
  read_fault = λ e. absurd (cc);
  write_fault = λ e. absurd (cc);
  too_much = λ e script told.
      let more = left_more now.left left bytes script read (stands.left_is script told) reads in
      let within = read_within bytes more.0 script read (stands.within script told) more.2 in
      (rw full at within, rw full at (more.1 ∙ ap Some (sym (read_rest bytes more.0 script read more.2))));
  not_too_much = λ ne. absurd (ne refl);
}

-- The text that the entries of a log make of a script is the one that was taken.
scripted_whole : (taken0 taken : Option (List ℕ)) {page0 page : Option Contents} {log0 log : Option (List Entry)} {pointer : State} (script : List ℕ) (before entries : List Entry) → log0 ≡ Some before → log ≡ Some (before ++ entries) → Hands (Answers (lines script) (known page0 log0 first_pointer) (known page log pointer)) taken0 taken → IsSomeAnd (scripted_replies script entries) (TakesAll taken0 taken)
scripted_whole taken0 taken {page0} {page} {log0} {log} {pointer} script before entries told_log now_log (text, took, answers) =
    let made = answers.by_log (before ++ entries) now_log in
    let same : made.follows.0 ≡ before = same_Some _ _ (sym made.follows.1 ∙ told_log) in
    let are : made.entries ≡ entries = append_cancel_left before made.entries entries (ap (λ (b : List Entry). b ++ made.entries) (sym same) ∙ sym made.follows.2) in
    let makes : scripted_lines (lines script) first_pointer entries ≡ Some (record { text = text; pointer = pointer; rest = [] }) = ap (scripted_lines (lines script) first_pointer) (sym (append-nil made.entries ∙ are)) ∙ made.makes [] in
    rw makes took

-- A run that came to its end.
pub ends_done : {start now : Moment} {read : ℕ} {begun : List ℕ} {pointer : State} → Stands start now read begun pointer → read < 2 ^ 32 → (finish : Moment) (pointer' : State)
    → Read now.left [] finish.left → IfSome finish.left (λ rest. rest ≡ [])
    → Hands (Answers (lines begun) (known_at now pointer) (known_at finish pointer')) now.taken finish.taken
    → Grows now.log finish.log
    → Ends status.Done start finish
ends_done {start} {now} {read} {begun} {pointer} stands below finish pointer' reads ended handed grows = record {
  usage = λ e. cc;
  replied = λ e script first told told_page. replied script first told told_page;
  to_the_end = λ e script told. (at_end stands finish reads ended script told).0;
  page_at_end = λ e script first told told_page. page_of_scene finish.page finish.log pointer' _ ((all_in_last stands finish pointer' reads ended handed script told).2.moves (opening first) (opened first told_page));
  front = λ script first told told_page.
      front_as start.taken finish.taken _ _ (sym (append-nil _)) (all_is_front start.taken finish.taken _ [] (replied script first told told_page));
  whole = λ e read' rest first told left_now told_page. absurd (cc);
  page_at_fault = λ e read' rest first told left_now told_page. absurd (cc);
  log_grows = grows_both stands.log_grows grows;
  scripted = λ e script before entries told told_log now_log. scripted_whole start.taken finish.taken script before entries told_log now_log (all_in_last stands finish pointer' reads ended handed script told);
  read_fault = λ e. absurd (cc);
  write_fault = λ e. absurd (cc);
  too_much = λ e script told. absurd (cc);
  not_too_much = λ e script told.
      let end = at_end stands finish reads ended script told in
      (read, below, stands.within script told, end.0 ∙ ap Some (sym end.1));
}
  where
    opened : (first : Contents) → start.page ≡ Some first → scene_of (known_at start first_pointer) ≡ Some (opening first)
    opened first told_page = ap (λ (o : Option Contents). scene_of (known o start.log first_pointer)) told_page

    replied : (script : List ℕ) (first : Contents) → start.left ≡ Some script → start.page ≡ Some first → TakesAll start.taken finish.taken (replies_from (opening first) (lines script))
    replied script first told told_page = let all = all_in_last stands finish pointer' reads ended handed script told in rw (← all.2.by_scene (opening first) (opened first told_page)) all.1

-- What a run without words owes, by how it ended.

too_much_or_not : (how : Status) → (how ≡ status.TooMuch) ⊎ (how ≢ status.TooMuch)
too_much_or_not status.Done = inr (λ e. cc)
too_much_or_not status.Usage = inr (λ e. cc)
too_much_or_not status.ReadFault = inr (λ e. cc)
too_much_or_not status.WriteFault = inr (λ e. cc)
too_much_or_not status.Memory = inr (λ e. cc)
too_much_or_not status.TooMuch = inl refl

-- a page that is told is the first one
pub first_told : (page : Option Contents) → IfSome page (λ p. p ≡ first_page) → IsSome page → page ≡ Some first_page
first_told None is told = absurd (false≢true told)
first_told (Some p) is told = ap Some is

-- where no count rose and the input is short, only memory can be wanting
pub ends_complete : {start finish : Moment} (how : Status) → Ends how start finish
    → (Rose start.read_faults finish.read_faults → ⊥) → (Rose start.write_faults finish.write_faults → ⊥) → (script : List ℕ) → start.left ≡ Some script → length script < 2 ^ 32 → (how ≡ status.Done) ⊎ (how ≡ status.Memory)
ends_complete status.Done ends calm_source calm_sink script told short = inl refl
ends_complete status.Usage ends calm_source calm_sink script told short = absurd (ends.usage refl)
ends_complete status.ReadFault ends calm_source calm_sink script told short = absurd (calm_source (ends.read_fault refl))
ends_complete status.WriteFault ends calm_source calm_sink script told short = absurd (calm_sink (ends.write_fault refl))
ends_complete status.Memory ends calm_source calm_sink script told short = inr refl
ends_complete status.TooMuch ends calm_source calm_sink script told short = let long = (ends.too_much refl script told).0 in absurd (omega arith)

-- as many bytes as a run may read, and it has read too much
pub ends_full : {start finish : Moment} (how : Status) → Ends how start finish
    → (script : List ℕ) → start.left ≡ Some script → 2 ^ 32 ≤ length script → finish.left ≡ Some (drop (2 ^ 32) script) → how ≡ status.TooMuch
ends_full {start} {finish} how ends script told long full = elim (too_much_or_not how) [
  | inl is ↦ is
  | inr isnt ↦
      let short = ends.not_too_much isnt script told in
      let same : drop short.0 script ≡ drop (2 ^ 32) script = same_Some _ _ (sym short.3 ∙ full) in
      let sizes : length script - short.0 ≡ length script - 2 ^ 32 = sym (length-drop short.0 script) ∙ ap length same ∙ length-drop (2 ^ 32) script in
      absurd (omega (arith, sizes, short.1, short.2, long))
]

-- however it ended, it has read no more than it may
pub ends_at_most : {start finish : Moment} (how : Status) → Ends how start finish → ReadsAtMost (2 ^ 32) start.left finish.left
ends_at_most {start} {finish} how ends script told = elim (too_much_or_not how) [
  | inl is ↦
      let full = ends.too_much is script told in
      (2 ^ 32, omega arith, full.0, full.1)
  | inr isnt ↦
      let short = ends.not_too_much isnt script told in
      (short.0, omega (arith, short.1), short.2, short.3)
]

-- What a sink took, by what was handed to it.

pub handed_all : {T E : Type 0} (r : Result T E) (cutter : Counted) (asked : List ℕ → List (List ℕ)) (now0 now : Known) (before after : Option (List ℕ)) (written : List ℕ)
    → OnOk r (TakesAll before after written)
    → ((begun : List ℕ) → HasBegun cutter begun → Appends (Answers (asked begun) now0 now) [] written)
    → OnOk r ((begun : List ℕ) → HasBegun cutter begun → Hands (Answers (asked begun) now0 now) before after)
handed_all (Ok x) cutter asked now0 now before after written took replies = λ begun has.
    let (text, is, answers) = replies begun has in
    (text, all_as before after written text (sym is) took, answers)
handed_all (Err e) cutter asked now0 now before after written took replies = tt

pub handed_front : {T E : Type 0} (r : Result T E) (cutter : Counted) (asked : List ℕ → List (List ℕ)) (now0 now : Known) (before after : Option (List ℕ)) (written : List ℕ)
    → TakesFront before after written
    → ((begun : List ℕ) → HasBegun cutter begun → Appends (Answers (asked begun) now0 now) [] written)
    → OnErr r ((begun : List ℕ) → HasBegun cutter begun → (was : Scene) → scene_of now0 ≡ Some was → TakesFront before after (replies_from was (asked begun)))
handed_front (Ok x) cutter asked now0 now before after written front replies = tt
handed_front (Err e) cutter asked now0 now before after written front replies = λ begun has was told.
    let (text, is, answers) = replies begun has in
    front_as before after written (replies_from was (asked begun)) (sym (is ∙ answers.by_scene was told)) front
