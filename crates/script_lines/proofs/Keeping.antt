-- What is written keeps what was there before.
use Rattle.std.proofs.Common.{◌≡◌, ℕ, List, ◌++◌, length, take, drop, refl, sym, ap, ◌∙◌, append_assoc}
use Rattle.std.proofs.lemmas.List.{take-append-drop, take_at}
use Rattle.script_lines.specs.Reply.{Keeps}

-- what keeps a list keeps what the list begins with
pub keeps_more : (old more mid new : List ℕ) → mid ≡ old ++ more → Keeps mid new → Keeps old new
keeps_more old more mid new is kept =
    let rest = drop (length mid) new in
    let whole : new ≡ old ++ (more ++ rest) = sym (take-append-drop (length mid) new) ∙ ap (λ (front : List ℕ). front ++ rest) (kept ∙ is) ∙ append_assoc old more rest in
    ap (take (length old)) whole ∙ take_at old (more ++ rest) (length old) refl
