-- How a run with the words of a load ends.
use Rattle.std.proofs.Common.{◌≡◌, ℕ, List, [], ◌++◌, Option, Some, Result, Ok, Err, refl, sym, ap, subst, inl, inr, ◌∙◌}
use Rattle.std.specs.Prelude.{◌⊎◌, IsSomeAnd, OnOk}
use Rattle.std.proofs.lemmas.List.{append-nil, append_cancel_left}
use Rattle.std.proofs.lemmas.Option.{same_Some}
use Rattle.box_tree.specs.Contents.{Contents}
use Rattle.hit_script.specs.Answered.{scene_of}
use Rattle.hit_script.specs.Ends.{Rose, TakesAll, TakesFront}
use Rattle.hit_script.specs.Load.{counted_lines, counted_log, counted_summary, load_lines, summary_line}
use Rattle.hit_script.specs.Log.{Entry, Grows, scripted_lines}
use Rattle.hit_script.specs.Outcome.{fault_status}
use Rattle.hit_script.specs.Script.{first_pointer, opening, scene_behind}
use Rattle.hit_script.specs.Tallied.{EndsLoad, SumsUp, Tallies, unmoved}
use Rattle.hit_script.specs.declared.counts.Counts.{Counts}
use Rattle.hit_script.specs.declared.outcome.Status.{Status}
use Rattle.hit_script.specs.declared.outcome.Status.TheVariants as status
use Rattle.hit_script.specs.declared.sinks.SinkFault.{SinkFault}
use Rattle.hit_script.specs.declared.sinks.SinkFault.TheVariants as sink_fault
use Rattle.hit_script.proofs.Progress.{page_of_scene, takes_nothing}

-- nothing was handed to the sink
pub front_of_nothing : (taken : Option (List ℕ)) (bytes : List ℕ) → TakesFront taken taken bytes
front_of_nothing taken bytes = (0, takes_nothing taken)

module _ (count : ℕ) (page0 page : Option Contents) (log0 log : Option (List Entry)) where
  told_opening : (first : Contents) → page0 ≡ Some first → scene_of (unmoved page0 log0) ≡ Some (opening first)
  told_opening first told = ap (λ (o : Option Contents). scene_of (unmoved o log0)) told

  -- what was counted is what the replies from the first page count
  pub counted_first : (counts : Counts) → Tallies (load_lines count) (unmoved page0 log0) (unmoved page log) counts → (first : Contents) → page0 ≡ Some first → counts ≡ counted_lines (opening first) (load_lines count)
  counted_first counts tallied first told = tallied.by_scene (opening first) (told_opening first told)

  module _ (taken0 taken : Option (List ℕ)) where
    pub summed_up : {T E : Type 0} (r : Result T E) (counts : Counts) (bytes : List ℕ) → Tallies (load_lines count) (unmoved page0 log0) (unmoved page log) counts → bytes ≡ summary_line count counts → OnOk r (TakesAll taken0 taken bytes) → OnOk r (SumsUp count (unmoved page0 log0) (unmoved page log) taken0 taken)
    summed_up (Ok x) counts bytes tallied is handed = record { counts = counts; tallied = tallied; handed = subst (TakesAll taken0 taken) is handed }
    summed_up (Err e) counts bytes tallied is handed = tt

    pub front_summed : (counts : Counts) (bytes : List ℕ) → Tallies (load_lines count) (unmoved page0 log0) (unmoved page log) counts → bytes ≡ summary_line count counts → TakesFront taken0 taken bytes → (first : Contents) → page0 ≡ Some first → TakesFront taken0 taken (summary_line count (counted_lines (opening first) (load_lines count)))
    front_summed counts bytes tallied is front first told = subst (TakesFront taken0 taken) (is ∙ ap (summary_line count) (counted_first counts tallied first told)) front

    module _ (faults0 faults : ℕ) where
      pub load_done : SumsUp count (unmoved page0 log0) (unmoved page log) taken0 taken
          → ((first : Contents) → page0 ≡ Some first → TakesFront taken0 taken (summary_line count (counted_lines (opening first) (load_lines count))))
          → Grows log0 log → EndsLoad status.Done count page0 page log0 log taken0 taken faults0 faults
      load_done sums part grows = record {
        summed = λ e first told. subst (λ (c : Counts). TakesAll taken0 taken (summary_line count c)) (counted_first sums.counts sums.tallied first told) sums.handed;
        front = part;
        page_at_end = λ e first told. page_of_scene page log first_pointer (scene_behind (opening first) (load_lines count)) (sums.tallied.answers.moves (opening first) (told_opening first told));
        log_grows = grows;
        counted = λ e before entries told_log now_log. counted before entries told_log now_log;
        cause = inl refl;
      }
        where
          counted : (before entries : List Entry) → log0 ≡ Some before → log ≡ Some (before ++ entries) → IsSomeAnd (counted_summary count entries) (TakesAll taken0 taken)
          counted before entries told_log now_log =
              let one = sums.tallied.by_log (before ++ entries) now_log in
              let made = one.0 in
              let same : made.follows.0 ≡ before = same_Some _ _ (sym made.follows.1 ∙ told_log) in
              let are : made.entries ≡ entries = append_cancel_left before made.entries entries (ap (λ (b : List Entry). b ++ made.entries) (sym same) ∙ sym made.follows.2) in
              let makes : scripted_lines (load_lines count) first_pointer entries ≡ Some (record { text = sums.tallied.text; pointer = first_pointer; rest = [] }) = ap (scripted_lines (load_lines count) first_pointer) (sym (append-nil made.entries ∙ are)) ∙ made.makes [] in
              rw makes (subst (λ (c : Counts). TakesAll taken0 taken (summary_line count c)) (one.1 ∙ ap counted_log are) sums.handed)

      pub load_by_sink : (fault : SinkFault) (how : Status) → how ≡ fault_status fault
          → (fault ≡ sink_fault.Failed → Rose faults0 faults)
          → ((first : Contents) → page0 ≡ Some first → TakesFront taken0 taken (summary_line count (counted_lines (opening first) (load_lines count))))
          → Grows log0 log → EndsLoad how count page0 page log0 log taken0 taken faults0 faults
      load_by_sink sink_fault.Failed how is rose part grows = record {
        summed = λ e first told. absurd (cc);
        front = part;
        page_at_end = λ e first told. absurd (cc);
        log_grows = grows;
        counted = λ e before entries told_log now_log. absurd (cc);
        cause = inr (inr (is, rose refl));
      }
      load_by_sink sink_fault.OutOfMemory how is rose part grows = record {
        summed = λ e first told. absurd (cc);
        front = part;
        page_at_end = λ e first told. absurd (cc);
        log_grows = grows;
        counted = λ e before entries told_log now_log. absurd (cc);
        cause = inr (inl is);
      }

-- What a load ends with.

abbrev pub LoadCause : Status → (faults0 faults : ℕ) → Type 0
LoadCause how faults0 faults = (how ≡ status.Done) ⊎ ((how ≡ status.Memory) ⊎ ((how ≡ status.WriteFault) × Rose faults0 faults))

pub load_not_usage : (how : Status) {faults0 faults : ℕ} → LoadCause how faults0 faults → how ≡ status.Usage → ⊥
load_not_usage how (inl done) is = absurd (cc)
load_not_usage how (inr (inl memory)) is = absurd (cc)
load_not_usage how (inr (inr (failed, rose))) is = absurd (cc)

pub load_not_read_fault : (how : Status) {faults0 faults : ℕ} → LoadCause how faults0 faults → how ≡ status.ReadFault → ⊥
load_not_read_fault how (inl done) is = absurd (cc)
load_not_read_fault how (inr (inl memory)) is = absurd (cc)
load_not_read_fault how (inr (inr (failed, rose))) is = absurd (cc)

pub load_not_too_much : (how : Status) {faults0 faults : ℕ} → LoadCause how faults0 faults → how ≡ status.TooMuch → ⊥
load_not_too_much how (inl done) is = absurd (cc)
load_not_too_much how (inr (inl memory)) is = absurd (cc)
load_not_too_much how (inr (inr (failed, rose))) is = absurd (cc)

pub load_write_fault : (how : Status) {faults0 faults : ℕ} → LoadCause how faults0 faults → how ≡ status.WriteFault → Rose faults0 faults
load_write_fault how (inl done) is = absurd (cc)
load_write_fault how (inr (inl memory)) is = absurd (cc)
load_write_fault how (inr (inr (failed, rose))) is = rose
