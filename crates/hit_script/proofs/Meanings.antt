-- What a line asks for, case by case.
use Rattle.std.proofs.Common.{◌≡◌, ℕ, true, false, not, ◌&&◌, List, Some, None, Err, inl, inr, refl}
use Rattle.std.proofs.lemmas.Bool.{and_parts, and_cases, not-true, not-false, both_ways, cases_Bool}
use Rattle.script_lines.specs.Blank.{is_blank}
use Rattle.script_lines.specs.Command.{is_long, meaning}
use Rattle.script_lines.specs.declared.command.LineFault.TheVariants as fault
use Rattle.hit_script.specs.Script.{asked_by}

-- a blank line that isn't too long asks for nothing
pub asks_nothing : (line : List ℕ) → (not (is_long line) && is_blank line) ≡ true → asked_by line ≡ None
unfolding asked_by
asks_nothing line passed =
    let parts = and_parts (not (is_long line)) (is_blank line) passed in
    let short : is_long line ≡ false = not-true (is_long line) parts.0 in
    let blank : is_blank line ≡ true = parts.1 in
    rw (short, blank) refl

-- a line that is too long has its fault
pub asks_long : (line : List ℕ) → is_long line ≡ true → asked_by line ≡ Some (Err fault.Long)
unfolding asked_by
asks_long line long = rw long refl

-- every other line asks for what it means
pub asks_meaning : (line : List ℕ) → (not (is_long line) && is_blank line) ≡ false → asked_by line ≡ Some (meaning line)
unfolding asked_by meaning
asks_meaning line read_on =
    elim (cases_Bool (is_long line)) [
      | inl long ↦ rw long refl
      | inr short ↦ elim (and_cases (not (is_long line)) (is_blank line) read_on) [
        | inl long ↦ absurd (both_ways (is_long line) short (not-false (is_long line) long))
        | inr unblank ↦ rw (short, unblank) refl
      ]
    ]
