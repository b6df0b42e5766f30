use Rattle.std.proofs.Common.{arith}
use Rattle.pointer_input.specs.Presses.{without_gone}
use Rattle.pointer_input.proofs.PressLemmas.{changed_more}
use Rattle.pointer_input.proofs.presses.forget.Goals as goal

pub loop-press-preserved : goal.loop-press-preserved
loop-press-preserved c =
    changed_more (without_gone c.args.gone.now) _ _ _ c.press-item.result _ (omega arith) c.loop-press.invariant c.forget.ensures
