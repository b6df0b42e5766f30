-- What holds after any list of inputs.
use Rattle.std.specs.Prelude.{◌≡◌, IsFalse, None, List, [], ◌∷◌}
use Rattle.pointer_input.specs.declared.input.Input.{Input}
use Rattle.pointer_input.specs.State.{State}
use Rattle.pointer_input.specs.Presses.{any_down}
use Rattle.pointer_input.specs.Inputs.{step}

-- the state after inputs one after another
abbrev pub state_after : State → List Input → State
state_after s [] = s
state_after s (input ∷ inputs) = state_after (step s input) inputs

-- nothing holds the pointer once no button is down
abbrev pub IsFreeWithoutButton : State → Type 0
IsFreeWithoutButton s = IsFalse (any_down s.presses) → s.holder ≡ None
