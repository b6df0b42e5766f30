-- How the answers of a desk to commands make the replies to lines.
use Rattle.std.proofs.Common.{◌≡◌, ◌≢◌, ℕ, List, [], ◌∷◌, ◌++◌, Option, Some, None, Result, Ok, Err, refl, sym, ap, ◌∙◌, append_assoc}
use Rattle.std.specs.Prelude.{OnOk, option_and_then}
use Rattle.std.specs.Option.{option_map_or}
use Rattle.std.proofs.lemmas.List.{append-nil}
use Rattle.mouse_events.specs.State.{State}
use Rattle.script_lines.specs.Command.{meaning}
use Rattle.script_lines.specs.declared.command.Command.{Command}
use Rattle.script_lines.specs.declared.command.LineFault.{LineFault}
use Rattle.script_lines.specs.declared.command.LineFault.TheVariants as fault
use Rattle.hit_script.specs.Answered.{Known, IsAnswered, Replies, Answers, Appends}
use Rattle.hit_script.specs.Cutting.{Counted, counted, cut_by_newline}
use Rattle.hit_script.specs.declared.cutter.Cut.TheVariants.{Long}
use Rattle.hit_script.specs.Lines.{HasBegun, lines}
use Rattle.hit_script.specs.Log.{Entry, Grows, Scripted, scripted_command, scripted_line, scripted_lines, text_before}
use Rattle.hit_script.specs.Script.{Scene, Answer, answer_to, answer_to_command, asked_by, replies_from, scene_behind}
use Rattle.hit_script.proofs.CutLaws.{whole_front, long_line, last_line}
use Rattle.hit_script.proofs.Meanings.{asks_long}
use Rattle.hit_script.proofs.Logs.{grows_scripted, scripted_nothing, scripted_both}
use Rattle.hit_script.proofs.Runs.{replies_from-append, scene_behind-append}

pub answers_nothing : (now : Known) → Answers [] now now []
answers_nothing now = record { moves = λ was told. told; by_scene = λ was told. refl; by_log = λ log told. scripted_nothing now.log log now.pointer told }

-- One line.

module _ (line : List ℕ) (asks : Option (Result Command LineFault)) (is : asked_by line ≡ asks) where
  answer_by : (was : Scene) → answer_to was line ≡ option_map_or (answer_to_command was) asks (record { reply = []; scene = was })
  answer_by was = ap (λ (o : Option (Result Command LineFault)). option_map_or (answer_to_command was) o (record { reply = []; scene = was })) is

  scene_by : (was : Scene) → (option_map_or (answer_to_command was) asks (record { reply = []; scene = was })).scene ≡ scene_behind was (line ∷ [])
  scene_by was = ap (λ (a : Answer). a.scene) (sym (answer_by was))

  text_by : (was : Scene) → (option_map_or (answer_to_command was) asks (record { reply = []; scene = was })).reply ≡ replies_from was (line ∷ [])
  text_by was = ap (λ (a : Answer). a.reply) (sym (answer_by was)) ∙ sym (append-nil _)

  pub made_by : (pointer behind : State) (log rest : List Entry) (text : List ℕ) → option_map_or (λ asked. scripted_command asked pointer log) asks (Some (record { text = []; pointer = pointer; rest = log })) ≡ Some (record { text = text; pointer = behind; rest = rest }) → scripted_lines (line ∷ []) pointer log ≡ Some (record { text = text; pointer = behind; rest = rest })
  made_by pointer behind log rest text makes =
      let made : scripted_line line pointer log ≡ Some (record { text = text; pointer = behind; rest = rest }) = ap (λ (o : Option (Result Command LineFault)). option_map_or (λ asked. scripted_command asked pointer log) o (Some (record { text = []; pointer = pointer; rest = log }))) is ∙ makes in
      ap (λ (o : Option Scripted). option_and_then (λ first. text_before first.text (scripted_lines [] first.pointer first.rest)) o) made
      ∙ ap (λ (t : List ℕ). let s : Scripted = record { text = t; pointer = behind; rest = rest } in Some s) (append-nil text)

-- a line that asks for nothing
pub answers_blank : (line : List ℕ) (now : Known) → asked_by line ≡ None → Answers (line ∷ []) now now []
answers_blank line now none = record {
  moves = λ was told. told ∙ ap Some (scene_by line None none was);
  by_scene = λ was told. text_by line None none was;
  by_log = λ log told. record { entries = []; follows = (log, told, sym (append-nil log)); makes = λ rest. made_by line None none now.pointer now.pointer rest rest [] refl };
}

-- a line that asks for a command, or has a fault
pub answers_line : (line : List ℕ) (asked : Result Command LineFault) {before after : Known} {text : List ℕ} → asked_by line ≡ Some asked → Replies asked before after text → Answers (line ∷ []) before after text
answers_line line asked {before} {after} {text} asks replies = record {
  moves = λ was told. replies.moves was told ∙ ap Some (scene_by line (Some asked) asks was);
  by_scene = λ was told. replies.by_scene was told ∙ text_by line (Some asked) asks was;
  by_log = λ log told.
      let one = replies.by_log log told in
      record { entries = one.entries; follows = one.follows; makes = λ rest. made_by line (Some asked) asks before.pointer after.pointer (one.entries ++ rest) rest text (one.makes rest) };
}

-- the same of a call that answers a line by what it means
pub answered_by_meaning : {T E : Type 0} (r : Result T E) (line : List ℕ) (asked : Result Command LineFault) (before after : Known) (old new : List ℕ)
    → asked_by line ≡ Some (meaning line)
    → (asked ≢ Err fault.OutOfMemory → asked ≡ meaning line)
    → OnOk r (asked ≢ Err fault.OutOfMemory)
    → OnOk r (Appends (Replies asked before after) old new)
    → OnOk r (Appends (Answers (line ∷ []) before after) old new)
answered_by_meaning (Ok x) line asked before after old new asks means no_want (text, is, replies) = (text, is, answers_line line asked (asks ∙ ap Some (sym (means no_want))) replies)
answered_by_meaning (Err e) line asked before after old new asks means no_want replies = tt

-- The same of a line that was cut.

-- one that is too long has its fault
pub answered_long : {T E : Type 0} (r : Result T E) (cutter : Counted) (before after : Known) (old new : List ℕ)
    → cut_by_newline cutter ≡ Long
    → OnOk r (Appends (Replies (Err fault.Long) before after) old new)
    → OnOk r ((line : List ℕ) → cutter ≡ counted line → Appends (Answers (line ∷ []) before after) old new)
answered_long (Ok x) cutter before after old new is (text, appended, replies) = λ line counts.
    (text, appended, answers_line line (Err fault.Long) (asks_long line (long_line line (ap cut_by_newline (sym counts) ∙ is))) replies)
answered_long (Err e) cutter before after old new is replies = tt

-- one that is whole was kept as it is
pub answered_whole : {T E : Type 0} (r : Result T E) (cutter : Counted) (kept : List ℕ) (before after : Known) (old new : List ℕ)
    → cut_by_newline cutter ≢ Long
    → kept ≡ cutter.front
    → OnOk r (Appends (Answers (kept ∷ []) before after) old new)
    → OnOk r ((line : List ℕ) → cutter ≡ counted line → Appends (Answers (line ∷ []) before after) old new)
answered_whole (Ok x) cutter kept before after old new short is replies = λ line counts.
    let whole : (counted line).front ≡ line = whole_front line (λ long. short (ap cut_by_newline counts ∙ long)) in
    let same : kept ≡ line = is ∙ ap (λ (c : Counted). c.front) counts ∙ whole in
    rw same at replies
answered_whole (Err e) cutter kept before after old new short is replies = tt

-- the last line, which counts where it isn't empty
pub answered_last : {T E : Type 0} (r : Result T E) (cutter : Counted) (before after : Known) (old new : List ℕ)
    → cutter.count ≢ 0
    → OnOk r ((line : List ℕ) → cutter ≡ counted line → Appends (Answers (line ∷ []) before after) old new)
    → OnOk r ((begun : List ℕ) → HasBegun cutter begun → Appends (Answers (lines begun) before after) old new)
answered_last (Ok x) cutter before after old new some replies = λ begun has. rw (last_line cutter begun has some) (replies begun has.counts)
answered_last (Err e) cutter before after old new some replies = tt

-- lines, and then more
pub answers_both : (xs ys : List (List ℕ)) {first mid last : Known} {text more : List ℕ} → Answers xs first mid text → Answers ys mid last more → Answers (xs ++ ys) first last (text ++ more)
answers_both xs ys {first} {mid} {last} {text} {more} begins goes_on = record {
  moves = λ was told. rw (scene_behind-append was xs ys) (goes_on.moves (scene_behind was xs) (begins.moves was told));
  by_scene = λ was told. rw (replies_from-append was xs ys, begins.by_scene was told, goes_on.by_scene (scene_behind was xs) (begins.moves was told)) refl;
  by_log = λ log told.
      let later = goes_on.by_log log told in
      let between = later.follows.0 in
      let sooner = begins.by_log between later.follows.1 in
      scripted_both xs ys first.pointer sooner (record { entries = later.entries; follows = (between, refl, later.follows.2); makes = later.makes });
}

-- What was put behind a text.

pub appends_nothing : (now : Known) (out : List ℕ) → Appends (Answers [] now now) out out
appends_nothing now out = ([], sym (append-nil out), answers_nothing now)

pub appends_both : (xs ys : List (List ℕ)) (first : List ℕ) {now0 now1 now2 : Known} {second third : List ℕ} → Appends (Answers xs now0 now1) first second → Appends (Answers ys now1 now2) second third → Appends (Answers (xs ++ ys) now0 now2) first third
appends_both xs ys first {now0} {now1} {now2} {second} {third} (text, begins, answers) (more, goes_on, others) =
    (text ++ more, goes_on ∙ ap (λ (out : List ℕ). out ++ more) begins ∙ append_assoc first text more, answers_both xs ys answers others)
