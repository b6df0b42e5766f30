-- UI Events, "mousedown", "mouseup" and "click": a press and a release of the primary button click the
-- nearest common inclusive ancestor of the element that was pressed and the one that was released.
use Rattle.std.specs.Prelude.{ℕ, ◌==◌, Bool, true, false, Option, Some, None, List, [], ◌∷◌, ◌++◌, is_some, find, reverse, slice_index_or, if◌then◌else◌}
use Rattle.std.specs.List.{list_any}
use Rattle.pointer_input.specs.declared.press.PressKind.{PressKind}
use Rattle.pointer_input.specs.declared.press.PressKind.TheVariants.{Up, Click}
use Rattle.pointer_input.specs.declared.press.Press.{Press}
use Rattle.mouse_events.specs.Chain.{target, is_member, without}

-- a button's press chain, where it is down
abbrev pub press_chain : ℕ → List (Option (List ℕ)) → Option (List ℕ)
press_chain button presses = slice_index_or presses button None

abbrev pub is_down : ℕ → List (Option (List ℕ)) → Bool
is_down button presses = is_some (press_chain button presses)

abbrev pub any_down : List (Option (List ℕ)) → Bool
any_down presses = list_any is_some presses

abbrev pub is_empty : {A : Type 0} → List A → Bool
is_empty [] = true
is_empty (x ∷ xs) = false

-- elements that are gone from the page are clicked no more: they go from the press chains
abbrev pub without_gone : List ℕ → Option (List ℕ) → Option (List ℕ)
without_gone gone None = None
without_gone gone (Some chain) = Some (without gone chain)

-- the nearest inclusive ancestor of a chain's target that is also in the press chain
abbrev pub common_ancestor : (press chain : List ℕ) → Option ℕ
common_ancestor press chain = find (λ x. is_member x press) (reverse chain)

abbrev pub press : PressKind → ℕ → ℕ → Press
press kind button x = record { kind = kind; target = x; button = button }

-- a press on an element, and none where there is no element
abbrev pub press_on : PressKind → ℕ → Option ℕ → List Press
press_on kind button None = []
press_on kind button (Some x) = press kind button x ∷ []

-- what is told where a button that was down goes up: the up, and for the primary button the click
abbrev pub told_of_release : (button : ℕ) (press chain : List ℕ) → List Press
told_of_release button pressed chain =
    press_on Up button (target chain)
    ++ (if button == 0 then press_on Click button (common_ancestor pressed chain) else [])
