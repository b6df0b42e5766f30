-- Those near the node, and then the one above its new place, where it is another.
use Rattle.std.proofs.Common.{◌≡◌, ℕ, [], ◌∷◌, ◌++◌, ◌==◌, false, sym, ap, ◌∙◌, append_assoc, arith}
use Rattle.std.specs.Prelude.{if◌then◌else◌}
use Rattle.std.proofs.lemmas.Bool.Decides.{nat_tests}
use Rattle.stacking.specs.Contexts.{context_of}
use Rattle.stacking.specs.Touched.{contexts_among, context_around, near}
use Rattle.stacking.proofs.SeenLemmas.{ok-weaker}
use Rattle.stacking.proofs.TouchedLemmas.{among-append}
use Rattle.stacking.proofs.changes.push_moved.Goals as goal

pub returns : goal.returns
returns c =
    let page = c.args.page.now.contents in
    let old = c.args.ids.now.items in
    let around = context_around page c.args.parent in
    let around_is : c.context_around-around.result ≡ around = c.context_around-around.ensures in
    let above_is : c.context_of.result ≡ context_of page c.args.id = c.context_of.ensures in
    let other : (around == context_of page c.args.id) ≡ false = grind (arith, nat_tests, around_is, above_is, c.if-around-context_of.false) in
    ok-weaker c.push_context.result _ _ (λ x known.
    known
    ∙ ap (λ (k : ℕ). c.push_near.new.ids.items ++ contexts_among page (k ∷ [])) around_is
    ∙ ap (λ xs. xs ++ contexts_among page (around ∷ [])) c.in_ok-push_near.ensures
    ∙ append_assoc old (contexts_among page (near page c.args.id)) (contexts_among page (around ∷ []))
    ∙ ap (λ xs. old ++ xs) (sym (among-append page (near page c.args.id) (around ∷ [])))
    ∙ ap (λ b. old ++ contexts_among page (near page c.args.id ++ (if b then [] else around ∷ []))) (sym other)) c.push_context.ensures
