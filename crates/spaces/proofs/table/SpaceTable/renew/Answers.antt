-- Each new entry is that of an id that was given.
use Rattle.std.proofs.Common.{subst, ℕ, ◌≤◌, length}
use Rattle.std.proofs.lemmas.Result.{IfOk-weaker}
use Rattle.spaces.proofs.OutsideLemmas.{fits-renewed}
use Rattle.spaces.proofs.table.SpaceTable.renew.Goals as goal

pub returns-clause-fits : goal.returns-clause-fits
returns-clause-fits c =
    IfOk-weaker c.renewed.result _ _ (λ change is. fits-renewed c.args.page.now.contents c.validity.ensures c.args.subtree (length c.lengthen.new.slots.items) change is
    (subst (λ (next : ℕ). next ≤ length c.lengthen.new.slots.items) c.next_id.ensures c.in_ok-lengthen.ensures.long)) c.renewed.ensures.renewed
