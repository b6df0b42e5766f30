-- A stacking context is the nearest around its children.
use Rattle.std.proofs.Common.{sym, ◌∙◌}
use Rattle.stacking.proofs.TouchedLemmas.{around-itself}
use Rattle.stacking.proofs.changes.context_around.Goals as goal

pub returns-then-makes_context : goal.returns-then-makes_context
returns-then-makes_context c = around-itself c.args.page.now.contents c.args.parent (sym c.makes_context.ensures ∙ c.if-makes_context.true)
