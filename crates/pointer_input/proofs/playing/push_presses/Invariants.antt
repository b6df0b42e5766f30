use Rattle.std.proofs.Common.{◌≡◌, ◌++◌, take}
use Rattle.pointer_input.specs.Inputs.{as_presses}
use Rattle.pointer_input.proofs.playing.push_presses.Given as goal

abbrev pub invariant-loop-press : goal.invariant-loop-press
invariant-loop-press l = l.outputs.items ≡ l.initial.outputs.items ++ as_presses (take l.press-index l.presses)
