-- What is counted of lines that go on, and of the lines of a load.
use Rattle.std.proofs.Common.{◌≡◌, ◌≢◌, ℕ, ℤ, ◌+◌, ◌/◌, ◌%◌, ◌==◌, inl, inr, suc, zero, List, [], ◌∷◌, ◌++◌, map, Option, Some, None, Result, Ok, Err, refl, sym, ap, ap₂, subst, ◌∙◌, add_assoc, add-zero, zero-add, arith}
use Rattle.std.specs.Prelude.{IfOk, IfErr, IfSome, OnOk, OnErr, option_map}
use Rattle.std.specs.List.{flat_map, range_with_len}
use Rattle.std.specs.Option.{option_map_or}
use Rattle.std.proofs.lemmas.Bool.{cases_Bool, eqb-true}
use Rattle.std.proofs.lemmas.List.{append-nil, flat_map_more}
use Rattle.std.proofs.lemmas.Option.{none-some, same_Some}
use Rattle.box_tree.specs.Contents.{Contents}
use Rattle.box_tree.specs.Edited.{answer_of, edited}
use Rattle.box_tree.specs.declared.edit.Done.{Done}
use Rattle.box_tree.specs.declared.edit.Edit.{Edit}
use Rattle.box_tree.specs.declared.edit.EditFault.{EditFault}
use Rattle.box_tree.specs.declared.edit.EditFault.TheVariants as edit_fault
use Rattle.point_query.specs.Elements.{elements_from_point}
use Rattle.script_lines.specs.Reply.{edit_fault_line, hit_line}
use Rattle.script_lines.specs.declared.command.Command.{Command}
use Rattle.script_lines.specs.declared.command.Command.TheVariants as command
use Rattle.script_lines.specs.declared.command.LineFault.{LineFault}
use Rattle.script_lines.specs.declared.command.LineFault.TheVariants as line_fault
use Rattle.tree_edits.specs.Edits.{first_fault}
use Rattle.hit_script.specs.Answered.{IsScripted, Known, scene_of}
use Rattle.hit_script.specs.Load.{counted_answer, counted_both, counted_command, counted_line, counted_lines, counted_log, counted_members, nothing_counted, section_line, section_lines}
use Rattle.hit_script.specs.Log.{Entry, EditEntry, HitEntry, Logs, Scripted, edit_line, scripted_command}
use Rattle.hit_script.specs.Script.{Scene, accepted_line, answer_to, answer_to_command, asked_by, first_pointer, scene_behind}
use Rattle.hit_script.specs.Tallied.{Gains, Tallies, TalliesCommand, unmoved}
use Rattle.hit_script.specs.declared.counts.Counts.{Counts}
use Rattle.hit_script.proofs.Answering.{answers_blank, answers_both, answers_line, answers_nothing, made_by}
use Rattle.hit_script.proofs.Logs.{scripted_both, scripted_nothing}
use Rattle.hit_script.proofs.TurnLaws.{same_int}

-- Counts are added up.

pub nothing_before : (counts : Counts) → counted_both nothing_counted counts ≡ counts
nothing_before counts = rw (zero-add counts.nodes, zero-add counts.listed, zero-add counts.sum) refl

pub nothing_behind : (counts : Counts) → counted_both counts nothing_counted ≡ counts
nothing_behind counts = rw (add-zero counts.nodes, add-zero counts.listed, add-zero counts.sum) refl

pub both_assoc : (some more others : Counts) → counted_both (counted_both some more) others ≡ counted_both some (counted_both more others)
both_assoc some more others = rw (add_assoc some.nodes more.nodes others.nodes, add_assoc some.listed more.listed others.listed, add_assoc some.sum more.sum others.sum) refl

pub counted_log-append : (some more : List Entry) → counted_log (some ++ more) ≡ counted_both (counted_log some) (counted_log more)
counted_log-append [] more = sym (nothing_before (counted_log more))
counted_log-append (entry ∷ some) more = ap (counted_both _) (counted_log-append some more) ∙ sym (both_assoc _ (counted_log some) (counted_log more))

pub counted_lines-append : (was : Scene) (some more : List (List ℕ)) → counted_lines was (some ++ more) ≡ counted_both (counted_lines was some) (counted_lines (scene_behind was some) more)
counted_lines-append was [] more = sym (nothing_before (counted_lines was more))
counted_lines-append was (line ∷ some) more = ap (counted_both (counted_line was line)) (counted_lines-append (answer_to was line).scene some more) ∙ sym (both_assoc (counted_line was line) _ _)

-- Lines, and then more.

pub tallies_nothing : (now : Known) → Tallies [] now now nothing_counted
unfolding scripted_nothing
tallies_nothing now = record {
  text = [];
  answers = answers_nothing now;
  by_scene = λ was told. refl;
  by_log = λ log told. (scripted_nothing now.log log now.pointer told, refl);
}

pub tallies_both : (xs ys : List (List ℕ)) {first mid last : Known} {some more : Counts} → Tallies xs first mid some → Tallies ys mid last more → Tallies (xs ++ ys) first last (counted_both some more)
unfolding scripted_both
tallies_both xs ys {first} {mid} {last} {some} {more} begins goes_on = record {
  text = begins.text ++ goes_on.text;
  answers = answers_both xs ys begins.answers goes_on.answers;
  by_scene = λ was told. ap₂ counted_both (begins.by_scene was told) (goes_on.by_scene (scene_behind was xs) (begins.answers.moves was told)) ∙ sym (counted_lines-append was xs ys);
  by_log = λ log told.
      let later = goes_on.by_log log told in
      let between = later.0.follows.0 in
      let sooner = begins.by_log between later.0.follows.1 in (
        scripted_both xs ys first.pointer sooner.0 (record { entries = later.0.entries; follows = (between, refl, later.0.follows.2); makes = later.0.makes }),
        ap₂ counted_both sooner.1 later.1 ∙ sym (counted_log-append sooner.0.entries later.0.entries),
      );
}

pub gains_nothing : (now : Known) (counts : Counts) → Gains (Tallies [] now now) counts counts
gains_nothing now counts = (nothing_counted, sym (nothing_behind counts), tallies_nothing now)

pub gains_both : (xs ys : List (List ℕ)) (old : Counts) {first mid last : Known} {between new : Counts} → Gains (Tallies xs first mid) old between → Gains (Tallies ys mid last) between new → Gains (Tallies (xs ++ ys) first last) old new
gains_both xs ys old {first} {mid} {last} {between} {new} (some, begins, tallied) (more, goes_on, others) =
    (counted_both some more, goes_on ∙ ap (λ (c : Counts). counted_both c more) begins ∙ both_assoc old some more, tallies_both xs ys tallied others)

-- all that was counted
pub gains_from_nothing : (xs : List (List ℕ)) (first last : Known) (counts : Counts) → Gains (Tallies xs first last) nothing_counted counts → Tallies xs first last counts
gains_from_nothing xs first last counts (more, is, tallied) = subst (Tallies xs first last) (sym (is ∙ nothing_before more)) tallied

-- One line.

pub tallies_blank : (line : List ℕ) (now : Known) → asked_by line ≡ None → Tallies (line ∷ []) now now nothing_counted
tallies_blank line now none = record {
  text = [];
  answers = answers_blank line now none;
  by_scene = λ was told. sym (nothing_behind (counted_line was line) ∙ ap (λ (o : Option (Result Command LineFault)). option_map_or (counted_command was) o nothing_counted) none);
  by_log = λ log told. (record { entries = []; follows = (log, told, sym (append-nil log)); makes = λ rest. made_by line None none now.pointer now.pointer rest rest [] refl }, refl);
}

pub tallies_line : (line : List ℕ) (asked : Result Command LineFault) {before after : Known} {counts : Counts} → asked_by line ≡ Some asked → TalliesCommand asked before after counts → Tallies (line ∷ []) before after counts
tallies_line line asked {before} {after} {counts} asks tallied = record {
  text = tallied.text;
  answers = answers_line line asked asks tallied.answers;
  by_scene = λ was told. tallied.by_scene was told ∙ sym (nothing_behind (counted_line was line) ∙ ap (λ (o : Option (Result Command LineFault)). option_map_or (counted_command was) o nothing_counted) asks);
  by_log = λ log told.
      let one = tallied.by_log log told in
      (record { entries = one.0.entries; follows = one.0.follows; makes = λ rest. made_by line (Some asked) asks before.pointer after.pointer (one.0.entries ++ rest) rest tallied.text (one.0.makes rest) }, one.1);
}

-- the same of a call that answers a line by what it means
pub tallied_by_meaning : {T E : Type 0} (r : Result T E) (line : List ℕ) (asked meant : Result Command LineFault) (before after : Known) (old new : Counts)
    → asked_by line ≡ Some meant
    → (asked ≢ Err line_fault.OutOfMemory → asked ≡ meant)
    → OnOk r (asked ≢ Err line_fault.OutOfMemory)
    → OnOk r (Gains (TalliesCommand asked before after) old new)
    → OnOk r (Gains (Tallies (line ∷ []) before after) old new)
tallied_by_meaning (Ok x) line asked meant before after old new asks means no_want (more, is, tallied) = (more, is, tallies_line line asked (asks ∙ ap Some (sym (means no_want))) tallied)
tallied_by_meaning (Err e) line asked meant before after old new asks means no_want tallied = tt

-- One command.

-- the pages of two scenes whose pointer was never moved
module _ (page0 page : Option Contents) (log0 log : Option (List Entry)) where
  -- the elements under a point
  pub tallies_hit : (x y : ℤ) (ids : List ℕ)
      → IfSome page0 (λ was. ids ≡ elements_from_point was x y)
      → page ≡ page0
      → Logs log0 log (HitEntry x y ids)
      → TalliesCommand (Ok (command.Hit x y)) (unmoved page0 log0) (unmoved page log) (counted_members ids)
  tallies_hit x y ids is same logged = record {
    text = hit_line ids;
    answers = record {
      moves = λ was told. ap (λ (o : Option Contents). scene_of (unmoved o log0)) same ∙ told;
      by_scene = λ was told. ap hit_line (by_page page0 is was told);
      by_log = λ after told. scripted after told;
    };
    by_scene = λ was told. ap counted_members (by_page page0 is was told);
    by_log = λ after told. (scripted after told, sym (only_entry));
  }
    where
      by_page : (o : Option Contents) → IfSome o (λ was. ids ≡ elements_from_point was x y) → (was : Scene) → scene_of (unmoved o log0) ≡ Some was → ids ≡ elements_from_point was.page x y
      by_page None here was told = absurd (none-some was told)
      by_page (Some p) here was told =
          let was_is : record { page = p; pointer = first_pointer } ≡ was = same_Some _ _ told in
          rw (← was_is) here

      scripted : (after : List Entry) → log ≡ Some after → IsScripted (scripted_command (Ok (command.Hit x y)) first_pointer) log0 after (hit_line ids) first_pointer
      scripted after told = record { entries = HitEntry x y ids ∷ []; follows = logged after told; makes = λ rest. rw (same_int x, same_int y) refl }

      only_entry : counted_log (HitEntry x y ids ∷ []) ≡ counted_members ids
      only_entry = nothing_behind (counted_members ids)

-- the line of a fault that is no want of memory
told_fault : (why : EditFault) → why ≢ edit_fault.OutOfMemory → edit_line (Err why) ≡ Some (edit_fault_line why)
told_fault edit_fault.Absent other = refl
told_fault edit_fault.Root other = refl
told_fault edit_fault.Kind other = refl
told_fault edit_fault.Cycle other = refl
told_fault edit_fault.Place other = refl
told_fault edit_fault.Deep other = refl
told_fault edit_fault.Full other = refl
told_fault edit_fault.Bound other = refl
told_fault edit_fault.OutOfMemory other = absurd (other refl)

-- an edit that was accepted
tallies_accepted : (edit : Edit) (what : Done) (page0 page : Option Contents) (log0 log : Option (List Entry))
    → IfSome page0 (λ was. first_fault was edit ≡ None)
    → IfSome page0 (λ was. what ≡ answer_of was edit)
    → page ≡ option_map (λ was. edited was edit) page0
    → Logs log0 log (EditEntry (Ok what))
    → TalliesCommand (Ok (command.Edit edit)) (unmoved page0 log0) (unmoved page log) (counted_answer (Ok what))
tallies_accepted edit what page0 page log0 log accepted is changed logged = record {
  text = accepted_line what;
  answers = record {
    moves = λ was told. moves page0 accepted changed was told;
    by_scene = λ was told. by_scene page0 accepted is was told;
    by_log = λ after told. scripted after told;
  };
  by_scene = λ was told. counted page0 accepted is was told;
  by_log = λ after told. (scripted after told, sym (nothing_behind (counted_answer (Ok what))));
}
  where
    moves : (o : Option Contents) → IfSome o (λ was. first_fault was edit ≡ None) → page ≡ option_map (λ was. edited was edit) o → (was : Scene) → scene_of (unmoved o log0) ≡ Some was → scene_of (unmoved page log) ≡ Some (answer_to_command was (Ok (command.Edit edit))).scene
    moves None none here was told = absurd (none-some was told)
    moves (Some p) none here was told =
        let was_is : record { page = p; pointer = first_pointer } ≡ was = same_Some _ _ told in
        rw (← was_is, none, here) refl

    by_scene : (o : Option Contents) → IfSome o (λ was. first_fault was edit ≡ None) → IfSome o (λ was. what ≡ answer_of was edit) → (was : Scene) → scene_of (unmoved o log0) ≡ Some was → accepted_line what ≡ (answer_to_command was (Ok (command.Edit edit))).reply
    by_scene None none here was told = absurd (none-some was told)
    by_scene (Some p) none here was told =
        let was_is : record { page = p; pointer = first_pointer } ≡ was = same_Some _ _ told in
        rw (← was_is, none) (ap accepted_line here)

    counted : (o : Option Contents) → IfSome o (λ was. first_fault was edit ≡ None) → IfSome o (λ was. what ≡ answer_of was edit) → (was : Scene) → scene_of (unmoved o log0) ≡ Some was → counted_answer (Ok what) ≡ counted_command was (Ok (command.Edit edit))
    counted None none here was told = absurd (none-some was told)
    counted (Some p) none here was told =
        let was_is : record { page = p; pointer = first_pointer } ≡ was = same_Some _ _ told in
        rw (← was_is, none) (ap (λ (d : Done). counted_answer (Ok d)) here)

    scripted : (after : List Entry) → log ≡ Some after → IsScripted (scripted_command (Ok (command.Edit edit)) first_pointer) log0 after (accepted_line what) first_pointer
    scripted after told = record { entries = EditEntry (Ok what) ∷ []; follows = logged after told; makes = λ rest. refl }

-- an edit that was refused
tallies_refused : (edit : Edit) (why : EditFault) (page0 page : Option Contents) (log0 log : Option (List Entry))
    → why ≢ edit_fault.OutOfMemory
    → IfSome page0 (λ was. first_fault was edit ≡ Some why)
    → page ≡ page0
    → Logs log0 log (EditEntry (Err why))
    → TalliesCommand (Ok (command.Edit edit)) (unmoved page0 log0) (unmoved page log) (counted_answer (Err why))
tallies_refused edit why page0 page log0 log other refused same logged = record {
  text = edit_fault_line why;
  answers = record {
    moves = λ was told. moves page0 refused same was told;
    by_scene = λ was told. by_scene page0 refused was told;
    by_log = λ after told. scripted after told;
  };
  by_scene = λ was told. counted page0 refused was told;
  by_log = λ after told. (scripted after told, refl);
}
  where
    moves : (o : Option Contents) → IfSome o (λ was. first_fault was edit ≡ Some why) → page ≡ o → (was : Scene) → scene_of (unmoved o log0) ≡ Some was → scene_of (unmoved page log) ≡ Some (answer_to_command was (Ok (command.Edit edit))).scene
    moves None some here was told = absurd (none-some was told)
    moves (Some p) some here was told =
        let was_is : record { page = p; pointer = first_pointer } ≡ was = same_Some _ _ told in
        rw (← was_is, some, here) refl

    by_scene : (o : Option Contents) → IfSome o (λ was. first_fault was edit ≡ Some why) → (was : Scene) → scene_of (unmoved o log0) ≡ Some was → edit_fault_line why ≡ (answer_to_command was (Ok (command.Edit edit))).reply
    by_scene None some was told = absurd (none-some was told)
    by_scene (Some p) some was told =
        let was_is : record { page = p; pointer = first_pointer } ≡ was = same_Some _ _ told in
        rw (← was_is, some) refl

    counted : (o : Option Contents) → IfSome o (λ was. first_fault was edit ≡ Some why) → (was : Scene) → scene_of (unmoved o log0) ≡ Some was → nothing_counted ≡ counted_command was (Ok (command.Edit edit))
    counted None some was told = absurd (none-some was told)
    counted (Some p) some was told =
        let was_is : record { page = p; pointer = first_pointer } ≡ was = same_Some _ _ told in
        rw (← was_is, some) refl

    scripted : (after : List Entry) → log ≡ Some after → IsScripted (scripted_command (Ok (command.Edit edit)) first_pointer) log0 after (edit_fault_line why) first_pointer
    scripted after told = record {
      entries = EditEntry (Err why) ∷ [];
      follows = logged after told;
      makes = λ rest. ap (option_map (λ (text : List ℕ). let s : Scripted = record { text = text; pointer = first_pointer; rest = rest } in s)) (told_fault why other);
    }

-- an edit, by what a desk says of it
pub tallies_edit : (edit : Edit) (answer : Result Done EditFault) (page0 page : Option Contents) (log0 log : Option (List Entry))
    → answer ≢ Err edit_fault.OutOfMemory
    → OnOk answer (IfSome page0 (λ was. first_fault was edit ≡ None))
    → IfOk answer (λ done. IfSome page0 (λ was. done ≡ answer_of was edit))
    → OnOk answer (page ≡ option_map (λ was. edited was edit) page0)
    → IfErr answer (λ why. why ≢ edit_fault.OutOfMemory → IfSome page0 (λ was. first_fault was edit ≡ Some why))
    → OnErr answer (page ≡ page0)
    → Logs log0 log (EditEntry answer)
    → TalliesCommand (Ok (command.Edit edit)) (unmoved page0 log0) (unmoved page log) (counted_answer answer)
tallies_edit edit (Ok what) page0 page log0 log other accepted is changed refused same logged = tallies_accepted edit what page0 page log0 log accepted is changed logged
tallies_edit edit (Err why) page0 page log0 log other accepted is changed refused same logged =
    let no_want : why ≢ edit_fault.OutOfMemory = λ want. other (ap Err want) in
    tallies_refused edit why page0 page log0 log no_want (refused no_want) same logged

-- The lines of a load, one number more.

range_more : (first count : ℕ) → range_with_len first (suc count) ≡ range_with_len first count ++ (first + count) ∷ []
range_more first zero = ap (λ (n : ℕ). n ∷ []) (sym (add-zero first))
range_more first (suc count) =
    let next : first + 1 + count ≡ first + suc count = omega arith in
    ap (λ (numbers : List ℕ). first ∷ numbers) (range_more (first + 1) count ∙ ap (λ (n : ℕ). range_with_len (first + 1) count ++ n ∷ []) next)

first_numbers : (count : ℕ) → range_with_len 0 (count + 1) ≡ range_with_len 0 count ++ count ∷ []
first_numbers count =
    let one_more : count + 1 ≡ suc count = omega arith in
    ap (range_with_len 0) one_more ∙ range_more 0 count ∙ ap (λ (n : ℕ). range_with_len 0 count ++ n ∷ []) (zero-add count)

pub blocks_more : (lines : ℕ → List (List ℕ)) (count : ℕ) → flat_map lines (range_with_len 0 (count + 1)) ≡ flat_map lines (range_with_len 0 count) ++ lines count
blocks_more lines count = ap (flat_map lines) (first_numbers count) ∙ sym (flat_map_more lines [] (range_with_len 0 count) count)

map_more : (line : ℕ → List ℕ) (numbers : List ℕ) (n : ℕ) → map line (numbers ++ n ∷ []) ≡ map line numbers ++ line n ∷ []
map_more line [] n = refl
map_more line (number ∷ numbers) n = ap (λ (more : List (List ℕ)). line number ∷ more) (map_more line numbers n)

pub queries_more : (line : ℕ → List ℕ) (count : ℕ) → map line (range_with_len 0 (count + 1)) ≡ map line (range_with_len 0 count) ++ line count ∷ []
queries_more line count = ap (map line) (first_numbers count) ∙ map_more line (range_with_len 0 count) count

-- what a call that counts the answer to an edit gains
pub edit_gained : {T E : Type 0} (r : Result T E) (edit : Edit) (answer : Result Done EditFault) (page0 page : Option Contents) (log0 log : Option (List Entry)) (old new : Counts)
    → OnOk r (answer ≢ Err edit_fault.OutOfMemory)
    → OnOk r (new ≡ counted_both old (counted_answer answer))
    → OnOk answer (IfSome page0 (λ was. first_fault was edit ≡ None))
    → IfOk answer (λ done. IfSome page0 (λ was. done ≡ answer_of was edit))
    → OnOk answer (page ≡ option_map (λ was. edited was edit) page0)
    → IfErr answer (λ why. why ≢ edit_fault.OutOfMemory → IfSome page0 (λ was. first_fault was edit ≡ Some why))
    → OnErr answer (page ≡ page0)
    → Logs log0 log (EditEntry answer)
    → OnOk r (Gains (TalliesCommand (Ok (command.Edit edit)) (unmoved page0 log0) (unmoved page log)) old new)
edit_gained (Ok x) edit answer page0 page log0 log old new other counted accepted is changed refused same logged =
    (counted_answer answer, counted, tallies_edit edit answer page0 page log0 log other accepted is changed refused same logged)
edit_gained (Err e) edit answer page0 page log0 log old new other counted accepted is changed refused same logged = tt

-- what a call that counts the elements under a point gains
pub hit_gained : {T E : Type 0} (r : Result T E) (x y : ℤ) (ids : List ℕ) (page0 page : Option Contents) (log0 log : Option (List Entry)) (old new : Counts)
    → OnOk r (new ≡ counted_both old (counted_members ids))
    → IfSome page0 (λ was. ids ≡ elements_from_point was x y)
    → page ≡ page0
    → Logs log0 log (HitEntry x y ids)
    → OnOk r (Gains (TalliesCommand (Ok (command.Hit x y)) (unmoved page0 log0) (unmoved page log)) old new)
hit_gained (Ok v) x y ids page0 page log0 log old new counted is same logged = (counted_members ids, counted, tallies_hit page0 page log0 log x y ids is same logged)
hit_gained (Err e) x y ids page0 page log0 log old new counted is same logged = tt

-- a command by another name
pub gained_as : {T E : Type 0} (r : Result T E) (asked asked' : Result Command LineFault) (before after : Known) (old new : Counts) → asked ≡ asked' → OnOk r (Gains (TalliesCommand asked' before after) old new) → OnOk r (Gains (TalliesCommand asked before after) old new)
gained_as r asked asked' before after old new is gains = subst (λ (a : Result Command LineFault). OnOk r (Gains (TalliesCommand a before after) old new)) (sym is) gains

-- The lines of a block and its section.

pub gains_none : {xs : List (List ℕ)} (now : Known) (counts : Counts) → xs ≡ [] → Gains (Tallies xs now now) counts counts
gains_none {xs} now counts none = subst (λ (lines : List (List ℕ)). Gains (Tallies lines now now) counts counts) (sym none) (gains_nothing now counts)

pub gains_as : {T E : Type 0} (r : Result T E) {xs ys : List (List ℕ)} (first last : Known) (old new : Counts) → xs ≡ ys → OnOk r (Gains (Tallies xs first last) old new) → OnOk r (Gains (Tallies ys first last) old new)
gains_as r {xs} {ys} first last old new same gains = subst (λ (lines : List (List ℕ)). OnOk r (Gains (Tallies lines first last) old new)) same gains

-- one line by another name
pub gains_line : {T E : Type 0} (r : Result T E) {line line' : List ℕ} (first last : Known) (old new : Counts) → line ≡ line' → OnOk r (Gains (Tallies (line ∷ []) first last) old new) → OnOk r (Gains (Tallies (line' ∷ []) first last) old new)
gains_line r {line} {line'} first last old new same gains = subst (λ (l : List ℕ). OnOk r (Gains (Tallies (l ∷ []) first last) old new)) same gains

-- lines, and then more where all went well
pub gains_then : {T E : Type 0} (r : Result T E) (xs ys : List (List ℕ)) (first mid last : Known) (old between new : Counts) → Gains (Tallies xs first mid) old between → OnOk r (Gains (Tallies ys mid last) between new) → OnOk r (Gains (Tallies (xs ++ ys) first last) old new)
gains_then (Ok x) xs ys first mid last old between new begins goes_on = gains_both xs ys old begins goes_on
gains_then (Err e) xs ys first mid last old between new begins goes_on = tt

-- no section begins at a block that isn't the first of a hundred
pub sections_none : (i : ℕ) → (i % 100 ≡ 0 → ⊥) → section_lines i ≡ []
sections_none i differs =
    elim (cases_Bool (i % 100 == 0)) [
      | inl first ↦ absurd (differs (eqb-true (i % 100) 0 first))
      | inr later ↦ rw later refl
    ]

pub sections_one : (i : ℕ) → i % 100 ≡ 0 → section_line (i / 100) ∷ [] ≡ section_lines i
sections_one i first = rw first refl
