use Rattle.std.specs.Prelude.{◌≡◌, ⊤}
use Rattle.std.specs.Borrow.{MutBor, Fml, follows_so}
use mathlib.Core.Option.{none}
use Rattle.mouse_events.specs.State.{State}
use Rattle.mouse_events.specs.contracts.pointer.Pointer.{the_row}

-- the pointer has this state once the events that it lent are given back
abbrev pub RestsOn : MutBor State → State → Fml
RestsOn pointer state = follows_so the_row the_row pointer.ghost_name none (λ _ _. ⊤) (λ new. new ≡ state)
