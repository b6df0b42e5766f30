-- A pointer with buttons over a list of inputs.
use Rattle.std.specs.Prelude.{◌<◌, ◌≤◌, ⊤, List, [], ◌∷◌, ◌++◌, map, length}
use Rattle.std.specs.Option.{option_to_list}
use Rattle.pointer_input.specs.declared.input.Input.{Input}
use Rattle.pointer_input.specs.declared.input.Input.TheVariants.{Turn, Down, Up, Capture}
use Rattle.pointer_input.specs.declared.input.Output.{Output}
use Rattle.pointer_input.specs.declared.input.Output.TheVariants as outputs
use Rattle.mouse_events.specs.declared.event.Event.{Event}
use Rattle.pointer_input.specs.declared.press.Press.{Press}
use Rattle.pointer_input.specs.State.{State}
use Rattle.pointer_input.specs.Presses.{any_down}
use Rattle.pointer_input.specs.Buttons.{turned, events_of_turn, pressed, press_of_down, released, presses_of_up, captured_by}

-- chains have at most 256 members, and there are five buttons
abbrev pub IsAllowed : Input → Type 0
IsAllowed (Turn under holding gone moved) = (length under ≤ 256) × (length holding ≤ 256)
IsAllowed (Down button) = button < 5
IsAllowed (Up button) = button < 5
IsAllowed (Capture id) = ⊤

abbrev pub as_events : List Event → List Output
as_events events = map outputs.Event events

abbrev pub as_presses : List Press → List Output
as_presses presses = map outputs.Press presses

-- what an input makes of the state
abbrev pub step : State → Input → State
step s (Turn under holding gone moved) = turned s under holding gone
step s (Down button) = pressed s button
step s (Up button) = released s button
step s (Capture id) = captured_by s id

-- what it is answered with
abbrev pub answer_to : State → Input → List Output
answer_to s (Turn under holding gone moved) = as_events (events_of_turn s under holding gone moved)
answer_to s (Down button) = as_presses (option_to_list (press_of_down s button))
answer_to s (Up button) = as_presses (presses_of_up s button)
answer_to s (Capture id) = outputs.Captured (any_down s.presses) ∷ []

-- the answers to inputs one after another
abbrev pub played : State → List Input → List Output
played s [] = []
played s (input ∷ inputs) = answer_to s input ++ played (step s input) inputs
