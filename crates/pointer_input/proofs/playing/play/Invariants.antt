use Rattle.std.proofs.Common.{◌≡◌, ◌++◌, drop}
use Rattle.pointer_input.specs.State.{start}
use Rattle.pointer_input.specs.Inputs.{played}
use Rattle.pointer_input.proofs.playing.play.Given as goal

-- what was told, and what the inputs to come will be answered with, is all that is told
abbrev pub invariant-loop-input : goal.invariant-loop-input
invariant-loop-input l = l.outputs.items ++ played l.buttons (drop l.input-index l.inputs) ≡ played start l.inputs
