-- No element holds the pointer once no button is down: each input keeps that.
use Rattle.std.proofs.Common.{◌≡◌, ℕ, zero, suc, Bool, true, false, cond, ◌||◌, Option, Some, None, List, [], ◌∷◌, map, set, is_some, refl, sym, ap, ◌∙◌}
use Rattle.pointer_input.specs.declared.input.Input.{Input}
use Rattle.pointer_input.specs.declared.input.Input.TheVariants.{Turn, Down, Up, Capture}
use Rattle.pointer_input.specs.State.{State, start}
use Rattle.pointer_input.specs.Capture.{holds_on}
use Rattle.pointer_input.specs.Presses.{is_down, any_down, without_gone}
use Rattle.pointer_input.specs.Buttons.{turned, holder_while}
use Rattle.pointer_input.specs.Inputs.{step}
use Rattle.pointer_input.specs.Runs.{state_after, IsFreeWithoutButton}
use Rattle.pointer_input.proofs.ClickLemmas.{either_false}

is_some-without_gone : (gone : List ℕ) (press : Option (List ℕ)) → is_some (without_gone gone press) ≡ is_some press
is_some-without_gone gone None = refl
is_some-without_gone gone (Some chain) = refl

any_down-without_gone : (gone : List ℕ) (presses : List (Option (List ℕ))) → any_down (map (without_gone gone) presses) ≡ any_down presses
any_down-without_gone gone [] = refl
any_down-without_gone gone (p ∷ ps) =
    ap (λ b. b || any_down (map (without_gone gone) ps)) (is_some-without_gone gone p)
    ∙ ap (λ b. is_some p || b) (any_down-without_gone gone ps)

-- where a button more is down and still none is, none was
none_before : (presses : List (Option (List ℕ))) (button : ℕ) (chain : List ℕ) → any_down (set presses button (Some chain)) ≡ false → any_down presses ≡ false
none_before [] button chain h = refl
none_before (p ∷ ps) zero chain h = let no : ⊥ = cc in absurd no
none_before (p ∷ ps) (suc button) chain h =
    let none = either_false (is_some p) (any_down (set ps button (Some chain))) h in
    ap (λ b. b || any_down ps) none.0 ∙ none_before ps button chain none.1

none_after : (stays : Bool) (holder : Option ℕ) → holder ≡ None → cond stays holder None ≡ None
none_after true holder h = h
none_after false holder h = refl

free-turned : (s : State) (under holding gone : List ℕ) → IsFreeWithoutButton s → IsFreeWithoutButton (turned s under holding gone)
free-turned s under holding gone free h =
    none_after (holds_on s.holder holding) s.holder (free (sym (any_down-without_gone gone s.presses) ∙ h))

pressed_case : (s : State) (button : ℕ) (down : Bool) → IsFreeWithoutButton s
    → IsFreeWithoutButton (cond down s (record s { presses = set s.presses button (Some s.chain) }))
pressed_case s button true free = free
pressed_case s button false free = λ h. free (none_before s.presses button s.chain h)

free_while : (presses : List (Option (List ℕ))) (holder : Option ℕ) → any_down presses ≡ false → holder_while presses holder ≡ None
free_while presses holder h = ap (λ b. cond {A = Option ℕ} b holder None) h

released_case : (s : State) (presses : List (Option (List ℕ))) (down : Bool) → IsFreeWithoutButton s
    → IsFreeWithoutButton (cond down (record { chain = s.chain; presses = presses; holder = holder_while presses s.holder }) s)
released_case s presses true free = free_while presses s.holder
released_case s presses false free = free

captured_case : (s : State) (id : ℕ) (down : Bool) → any_down s.presses ≡ down → IsFreeWithoutButton s
    → IsFreeWithoutButton (cond down (record s { holder = Some id }) s)
captured_case s id true e free = λ h. let no : ⊥ = cc in absurd no
captured_case s id false e free = free

free-step : (s : State) (input : Input) → IsFreeWithoutButton s → IsFreeWithoutButton (step s input)
free-step s (Turn under holding gone moved) free = free-turned s under holding gone free
free-step s (Down button) free = pressed_case s button (is_down button s.presses) free
free-step s (Up button) free = released_case s (set s.presses button None) (is_down button s.presses) free
free-step s (Capture id) free = captured_case s id (any_down s.presses) refl free

free-after : (s : State) (inputs : List Input) → IsFreeWithoutButton s → IsFreeWithoutButton (state_after s inputs)
free-after s [] free = free
free-after s (input ∷ inputs) free = free-after (step s input) inputs (free-step s input free)

pub free_from_start : (inputs : List Input) → IsFreeWithoutButton (state_after start inputs)
free_from_start inputs = free-after start inputs (λ h. refl)
