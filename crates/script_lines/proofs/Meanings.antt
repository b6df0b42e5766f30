-- What a line means, case by case.
use Rattle.std.proofs.Common.{◌≡◌, ℕ, ◌^◌, ◌<◌, ◌≤◌, true, false, cond, List, length, Option, None, Err, refl}
use Rattle.std.specs.Prelude.{nat_lt}
use Rattle.std.specs.Str.{IsUtf8, is_utf8}
use Rattle.std.proofs.lemmas.Str.{IsUtf8-from_is_utf8, is_utf8-from_IsUtf8}
use Rattle.std.proofs.lemmas.Bool.{lt-ltb, le-ltb}
use Rattle.serde_json.specs.Data.{Data}
use Rattle.serde_json.specs.Read.{read}
use Rattle.script_lines.specs.Command.{json_reading, command_or_fault, meaning}
use Rattle.script_lines.specs.declared.command.LineFault.TheVariants as fault

-- bytes that are UTF-8 have the reading of their text
pub reading_of_text : (line : List ℕ) → IsUtf8 line → json_reading line ≡ read line
unfolding json_reading
reading_of_text line text = rw (is_utf8-from_IsUtf8 line text) refl

-- other bytes have none
pub reading_of_bytes : (line : List ℕ) → (IsUtf8 line → ⊥) → json_reading line ≡ None
unfolding json_reading
reading_of_bytes line no_text =
    elim (is_utf8 line) as (λ b. is_utf8 line ≡ b → cond b (read line) None ≡ None) [ true ↦ λ e. absurd (no_text (IsUtf8-from_is_utf8 line e)) | false ↦ λ e. refl ] refl

pub meaning_long : (line : List ℕ) → 2 ^ 20 < length line → meaning line ≡ Err fault.Long
unfolding meaning
meaning_long line long = let test : nat_lt (2 ^ 20) (length line) ≡ true = lt-ltb (2 ^ 20) (length line) long in rw test refl

pub meaning_of : (line : List ℕ) (reading : Option Data) → length line ≤ 2 ^ 20 → json_reading line ≡ reading → meaning line ≡ command_or_fault reading
unfolding meaning
meaning_of line reading short is = let test : nat_lt (2 ^ 20) (length line) ≡ false = le-ltb (2 ^ 20) (length line) short in rw (test, is) refl
