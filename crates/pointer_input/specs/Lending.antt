use Rattle.std.specs.Prelude.{◌≡◌, ⊤}
use Rattle.std.specs.Borrow.{MutBor, Fml, follows_so}
use mathlib.Core.Option.{none}
use Rattle.pointer_input.specs.State.{State}
use Rattle.pointer_input.specs.contracts.buttons.Buttons.{the_row}

-- the buttons have this state once what they lent is given back
abbrev pub RestsOn : MutBor State → State → Fml
RestsOn buttons state = follows_so the_row the_row buttons.ghost_name none (λ _ _. ⊤) (λ new. new ≡ state)
