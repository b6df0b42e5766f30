use Rattle.std.proofs.Common.{◌∙◌, ◌-◌, arith}
use Rattle.mouse_events.proofs.EventLemmas.{leaves_pushed}
use Rattle.mouse_events.proofs.changes.push_leaves.Goals as goal

pub loop-i-preserved : goal.loop-i-preserved
loop-i-preserved c =
    let pushed = leaves_pushed c.loop-i.events.items _ c.args.new_chain.now c.args.kept.now c.args.alive.now c.loop-i.i (c.loop-i.i - 1) _ c.args.related _
    (omega arith) (omega arith) c.requires.flags c.push_if.ensures.items c.is_left.ensures in
    (pushed ∙ c.loop-i.invariant.0, omega arith, omega arith)
