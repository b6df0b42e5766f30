-- What a click means on a page, where two chains have a common part and part below it.
use Rattle.std.specs.Prelude.{◌≡◌, ℕ, Bool, IsFalse, List, ◌++◌}
use Rattle.std.specs.List.{list_any}
use Rattle.mouse_events.specs.Chain.{target, is_member}
use Rattle.pointer_input.specs.Presses.{common_ancestor}

abbrev pub have_common_member : List ℕ → List ℕ → Bool
have_common_member xs ys = list_any (λ x. is_member x ys) xs

-- where what was released shares nothing more with what was pressed than the ancestors that both have, the
-- nearest of these is clicked, and nothing where there are none
abbrev pub ClicksNearest : (ancestors pressed released : List ℕ) → Type 0
ClicksNearest ancestors pressed released =
    IsFalse (have_common_member released (ancestors ++ pressed))
    → common_ancestor (ancestors ++ pressed) (ancestors ++ released) ≡ target ancestors
