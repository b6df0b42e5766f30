use Rattle.std.proofs.Common.{◌≡◌}
use Rattle.pointer_input.specs.Presses.{without_gone}
use Rattle.pointer_input.proofs.PressLemmas.{changed_below}
use Rattle.pointer_input.proofs.presses.forget.Given as goal

abbrev pub invariant-loop-press : goal.invariant-loop-press
invariant-loop-press l =
    l.press-items ≡ changed_below (without_gone l.gone) l.press-index l.initial.press-items
