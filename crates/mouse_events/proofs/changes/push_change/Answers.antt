use Rattle.std.proofs.Common.{◌∙◌}
use Rattle.mouse_events.proofs.EventLemmas.{change_made}
use Rattle.mouse_events.proofs.changes.push_change.Goals as goal

pub returns-clause-items : goal.returns-clause-items
returns-clause-items c =
    change_made _ _ _ _ _ _ _ _ _ _ c.living_target-from.ensures (c.copied-to.ensures ∙ c.last.ensures.value)
    c.push_on.ensures.items c.push_leaves.ensures.items c.push_on-2.ensures.items c.push_enters.ensures.items
