-- The candidates that are stacking contexts.
use Rattle.std.proofs.Common.{◌≡◌, List, ℕ, Bool, true, false, refl, sym, ap, ◌∙◌, arith}
use Rattle.std.specs.Prelude.{◌&&◌}
use Rattle.std.proofs.lemmas.Bool.{false≢true}
use Rattle.box_tree.specs.declared.edit.Edit.{Edit}
use Rattle.box_tree.specs.Contents.{Contents}
use Rattle.box_tree.specs.Planned.{is_among, times_in}
use Rattle.box_tree.specs.Containing.{makes_context}
use Rattle.stacking.specs.Touched.{contexts_among, candidates}
use Rattle.stacking.proofs.SeenLemmas.{ok-weaker}
use Rattle.stacking.proofs.TouchedLemmas.{among-filter, times-filter, candidates-once, candidates-all, candidates-only}
use Rattle.stacking.proofs.changes.touched.Goals as goal

-- a node of the answer is a candidate and a stacking context
record IsPicked (page : Contents) (edit : Edit) (id : ℕ) : Type 0 where
  candidate : is_among (candidates page edit) id ≡ true
  real : makes_context page id ≡ true

both : (a b : Bool) → (a && b) ≡ true → (a ≡ true) × (b ≡ true)
both true b is = (refl, is)
both false b is = absurd (false≢true is)

picked : (page : Contents) (edit : Edit) (id : ℕ) (ids : List ℕ) → ids ≡ contexts_among page (candidates page edit) → is_among ids id ≡ true → IsPicked page edit id
picked page edit id ids known among =
    let parts = both (is_among (candidates page edit) id) (makes_context page id) (sym (among-filter (makes_context page) (candidates page edit) id) ∙ ap (λ (xs : List ℕ). is_among xs id) (sym known) ∙ among) in
    record { candidate = parts.0; real = parts.1 }

-- a stacking context that isn't in the answer is no candidate
left_out : (page : Contents) (edit : Edit) (id : ℕ) (ids : List ℕ) → ids ≡ contexts_among page (candidates page edit) → makes_context page id ≡ true → is_among ids id ≡ false → is_among (candidates page edit) id ≡ false
left_out page edit id ids known real apart =
    by_test (is_among (candidates page edit) id) (ap (λ c. is_among (candidates page edit) id && c) (sym real) ∙ sym (among-filter (makes_context page) (candidates page edit) id) ∙ ap (λ (xs : List ℕ). is_among xs id) (sym known) ∙ apart)
  where
    by_test : (b : Bool) → (b && true) ≡ false → b ≡ false
    by_test true is = is
    by_test false is = refl

pub returns-clause-once : goal.returns-clause-once
returns-clause-once c = ok-weaker c.contexts_for.result _ _ (λ ids known id.
    let page = c.args.page.now.contents in
    let few = candidates-once page c.validity.ensures c.args.edit.now id c.requires in
    let fewer = times-filter (makes_context page) (candidates page c.args.edit.now) id in
    let is = ap (λ (xs : List ℕ). times_in id xs) known in
    omega (arith, few, fewer, is)) c.contexts_for.ensures

pub returns-clause-contexts : goal.returns-clause-contexts
returns-clause-contexts c = ok-weaker c.contexts_for.result _ _ (λ ids known id among. (picked c.args.page.now.contents c.args.edit.now id ids.items known among).real) c.contexts_for.ensures

pub returns-clause-all : goal.returns-clause-all
returns-clause-all c = ok-weaker c.contexts_for.result _ _ (λ ids known id real apart.
    candidates-all c.args.page.now.contents c.validity.ensures id real c.args.edit.now c.requires (left_out c.args.page.now.contents c.args.edit.now id ids.items known real apart)) c.contexts_for.ensures

pub returns-clause-only : goal.returns-clause-only
returns-clause-only c = ok-weaker c.contexts_for.result _ _ (λ ids known id among stands.
    let is = picked c.args.page.now.contents c.args.edit.now id ids.items known among in
    candidates-only c.args.page.now.contents c.validity.ensures id is.real c.args.edit.now c.requires is.candidate stands) c.contexts_for.ensures
