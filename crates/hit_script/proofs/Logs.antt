-- Logs that go on, and what their entries make of lines.
use Rattle.std.proofs.Common.{◌≡◌, ℕ, List, [], ◌∷◌, ◌++◌, Option, Some, None, refl, sym, ap, ◌∙◌, append_assoc}
use Rattle.std.specs.Prelude.{option_and_then}
use Rattle.std.proofs.lemmas.Option.{same_Some}
use Rattle.std.proofs.lemmas.List.{append-nil}
use Rattle.mouse_events.specs.State.{State}
use Rattle.hit_script.specs.Answered.{IsScripted}
use Rattle.hit_script.specs.Log.{Entry, IsFollowedBy, LogsAll, Logs, Grows, Scripted, scripted_line, scripted_lines, text_before}

-- A log goes on.

pub logs_same : (log : Option (List Entry)) → LogsAll log log []
logs_same log after told = (after, told, sym (append-nil after))

pub grows_same : (log : Option (List Entry)) → Grows log log
grows_same log after told = ([], logs_same log after told)

pub follows_both : {first : Option (List Entry)} {mid : List Entry} {xs ys : List Entry} {after : List Entry} → IsFollowedBy first xs mid → IsFollowedBy (Some mid) ys after → IsFollowedBy first (xs ++ ys) after
follows_both {first} {mid} {xs} {ys} {after} begins goes_on =
    let same : mid ≡ goes_on.0 = same_Some _ _ goes_on.1 in
    (begins.0, begins.1, goes_on.2 ∙ ap (λ (b : List Entry). b ++ ys) (sym same ∙ begins.2) ∙ append_assoc begins.0 xs ys)

pub grows_both : {first second third : Option (List Entry)} → Grows first second → Grows second third → Grows first third
grows_both {first} {second} {third} begins goes_on after told =
    let later = goes_on after told in
    let sooner = begins later.1.0 later.1.1 in
    (sooner.0 ++ later.0, follows_both sooner.1 (later.1.0, refl, later.1.2))

-- some entries, and then others
pub logs_both : {first second third : Option (List Entry)} {xs ys : List Entry} → LogsAll first second xs → LogsAll second third ys → LogsAll first third (xs ++ ys)
logs_both {first} {second} {third} {xs} {ys} begins goes_on after told =
    let later = goes_on after told in
    follows_both (begins later.0 later.1) (later.0, refl, later.2)

pub grows_by : {old new : Option (List Entry)} {entry : Entry} → Logs old new entry → Grows old new
grows_by {old} {new} {entry} logs after told = (entry ∷ [], logs after told)

pub grows_scripted : {make : List Entry → Option Scripted} {old new : Option (List Entry)} {text : List ℕ} {pointer : State} → ((after : List Entry) → new ≡ Some after → IsScripted make old after text pointer) → Grows old new
grows_scripted {make} {old} {new} {text} {pointer} scripted after told = ((scripted after told).entries, (scripted after told).follows)

-- What entries make of lines, some lines after others.

-- what the entries that are left make of more lines
abbrev more_by : List (List ℕ) → Scripted → Option Scripted
more_by ys made = text_before made.text (scripted_lines ys made.pointer made.rest)

more_before : (text : List ℕ) (ys : List (List ℕ)) (made : Option Scripted) → text_before text (option_and_then (more_by ys) made) ≡ option_and_then (more_by ys) (text_before text made)
more_before text ys None = refl
more_before text ys (Some made) = by_rest (scripted_lines ys made.pointer made.rest)
  where
    by_rest : (more : Option Scripted) → text_before text (text_before made.text more) ≡ text_before (text ++ made.text) more
    by_rest None = refl
    by_rest (Some more) = rw (append_assoc text made.text more.text) refl

more_behind : (others ys : List (List ℕ)) (first : Option Scripted)
    → ((pointer : State) (log : List Entry) → scripted_lines (others ++ ys) pointer log ≡ option_and_then (more_by ys) (scripted_lines others pointer log))
    → option_and_then (more_by (others ++ ys)) first ≡ option_and_then (more_by ys) (option_and_then (more_by others) first)
more_behind others ys None split = refl
more_behind others ys (Some first) split = rw (split first.pointer first.rest) (more_before first.text ys (scripted_lines others first.pointer first.rest))

nothing_before : (more : Option Scripted) → more ≡ text_before [] more
nothing_before None = refl
nothing_before (Some more) = refl

pub scripted_lines-append : (xs ys : List (List ℕ)) (pointer : State) (log : List Entry) → scripted_lines (xs ++ ys) pointer log ≡ option_and_then (more_by ys) (scripted_lines xs pointer log)
scripted_lines-append [] ys pointer log = nothing_before (scripted_lines ys pointer log)
scripted_lines-append (line ∷ others) ys pointer log = more_behind others ys (scripted_line line pointer log) (scripted_lines-append others ys)

unfoldable pub scripted_nothing : (old : Option (List Entry)) (after : List Entry) (pointer : State) → old ≡ Some after → IsScripted (scripted_lines [] pointer) old after [] pointer
scripted_nothing old after pointer told = record { entries = []; follows = (after, told, sym (append-nil after)); makes = λ rest. refl }

unfoldable pub scripted_both : (xs ys : List (List ℕ)) (pointer0 : State) {pointer1 pointer2 : State} {first : Option (List Entry)} {mid after : List Entry} {text more : List ℕ} → IsScripted (scripted_lines xs pointer0) first mid text pointer1 → IsScripted (scripted_lines ys pointer1) (Some mid) after more pointer2 → IsScripted (scripted_lines (xs ++ ys) pointer0) first after (text ++ more) pointer2
scripted_both xs ys pointer0 {pointer1} {pointer2} {first} {mid} {after} {text} {more} begins goes_on = record {
  entries = begins.entries ++ goes_on.entries;
  follows = follows_both begins.follows goes_on.follows;
  makes = λ rest.
      rw (append_assoc begins.entries goes_on.entries rest, scripted_lines-append xs ys pointer0 (begins.entries ++ (goes_on.entries ++ rest)), begins.makes (goes_on.entries ++ rest)) (ap (text_before text) (goes_on.makes rest));
}
