-- Those collected, each once.
use Rattle.std.proofs.Common.{ℕ, List, sym, ap, ◌∙◌}
use Rattle.box_tree.specs.Planned.{is_among}
use Rattle.stacking.proofs.SeenLemmas.{ok-weaker}
use Rattle.stacking.proofs.RenewLemmas.{all-real, all-touched, all-next, all-only}
use Rattle.stacking.proofs.changes.renewed.Goals as goal

pub returns-clause-contexts : goal.returns-clause-contexts
returns-clause-contexts c = ok-weaker c.each_once.result _ _ (λ ids known id among.
    all-real c.args.page.now.contents c.validity.ensures c.args.node c.args.touched.now id
    (sym (known id ∙ ap (λ (xs : List ℕ). is_among xs id) (c.deref.ensures.value ∙ c.in_ok-ids.ensures)) ∙ among)) c.each_once.ensures.same

pub returns-clause-once : goal.returns-clause-once
returns-clause-once c = c.each_once.ensures.once

pub returns-clause-all_touched : goal.returns-clause-all_touched
returns-clause-all_touched c = ok-weaker c.each_once.result _ _ (λ ids known id is real.
    known id ∙ ap (λ (xs : List ℕ). is_among xs id) (c.deref.ensures.value ∙ c.in_ok-ids.ensures)
    ∙ all-touched c.args.page.now.contents c.validity.ensures c.args.node c.args.touched.now id is real) c.each_once.ensures.same

pub returns-clause-all_next : goal.returns-clause-all_next
returns-clause-all_next c = ok-weaker c.each_once.result _ _ (λ ids known id there real next.
    known id ∙ ap (λ (xs : List ℕ). is_among xs id) (c.deref.ensures.value ∙ c.in_ok-ids.ensures)
    ∙ all-next c.args.page.now.contents c.validity.ensures c.args.node c.args.touched.now id there real next) c.each_once.ensures.same

pub returns-clause-only : goal.returns-clause-only
returns-clause-only c = ok-weaker c.each_once.result _ _ (λ ids known id among.
    all-only c.args.page.now.contents c.validity.ensures c.args.node c.args.touched.now id
    (sym (known id ∙ ap (λ (xs : List ℕ). is_among xs id) (c.deref.ensures.value ∙ c.in_ok-ids.ensures)) ∙ among)) c.each_once.ensures.same
