-- What each input makes of the state, and what it is answered with.
use Rattle.std.specs.Prelude.{ℕ, Bool, not, Option, Some, None, List, [], map, option_map, slice_set, if◌then◌else◌}
use Rattle.mouse_events.specs.declared.event.Event.{Event}
use Rattle.mouse_events.specs.Chain.{target, is_member}
use Rattle.mouse_events.specs.Events.{events_between}
use Rattle.pointer_input.specs.declared.press.PressKind.TheVariants.{Down}
use Rattle.pointer_input.specs.declared.press.Press.{Press}
use Rattle.pointer_input.specs.State.{State}
use Rattle.pointer_input.specs.Capture.{chain_of_turn, holder_after}
use Rattle.pointer_input.specs.Presses.{is_down, any_down, press_chain, without_gone, press, told_of_release}

-- ---- a turn, to the element under the pointer or to the holder

-- for each member of the kept chain whether it is still in the page
abbrev pub still_there : (gone chain : List ℕ) → List Bool
still_there gone chain = map (λ x. not (is_member x gone)) chain

abbrev pub events_of_turn : State → (under holding gone : List ℕ) → (moved : Bool) → List Event
events_of_turn s under holding gone moved =
    events_between s.chain (still_there gone s.chain) (chain_of_turn s.holder under holding) moved

abbrev pub turned : State → (under holding gone : List ℕ) → State
turned s under holding gone = record {
  chain = chain_of_turn s.holder under holding;
  presses = map (without_gone gone) s.presses;
  holder = holder_after s.holder holding;
}

-- ---- a button goes down: the kept chain becomes its press chain

abbrev pub pressed : State → ℕ → State
pressed s button =
    if is_down button s.presses then s else record s { presses = slice_set s.presses button (Some s.chain) }

abbrev pub press_of_down : State → ℕ → Option Press
press_of_down s button =
    if is_down button s.presses then None else option_map (press Down button) (target s.chain)

-- ---- a button goes up: with the last one the holder ends

abbrev pub holder_while : List (Option (List ℕ)) → Option ℕ → Option ℕ
holder_while presses holder = if any_down presses then holder else None

abbrev pub without_press : State → List (Option (List ℕ)) → State
without_press s presses = record { chain = s.chain; presses = presses; holder = holder_while presses s.holder }

abbrev pub released : State → ℕ → State
released s button =
    if is_down button s.presses then without_press s (slice_set s.presses button None) else s

abbrev pub told_where_down : ℕ → Option (List ℕ) → List ℕ → List Press
told_where_down button None chain = []
told_where_down button (Some pressed) chain = told_of_release button pressed chain

abbrev pub presses_of_up : State → ℕ → List Press
presses_of_up s button = told_where_down button (press_chain button s.presses) s.chain

-- ---- an element takes hold of the pointer, while a button is down

abbrev pub captured_by : State → ℕ → State
captured_by s id = if any_down s.presses then record s { holder = Some id } else s
