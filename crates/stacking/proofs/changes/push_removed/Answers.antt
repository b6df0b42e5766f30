-- The context above, and then those in the tree.
use Rattle.std.proofs.Common.{ℕ, [], ◌∷◌, ◌++◌, sym, ap, ◌∙◌, append_assoc}
use Rattle.box_tree.specs.Contents.{tree_of}
use Rattle.box_tree.specs.Forest.{ids_in}
use Rattle.stacking.specs.Contexts.{context_of}
use Rattle.stacking.specs.Touched.{contexts_among}
use Rattle.stacking.proofs.SeenLemmas.{ok-weaker}
use Rattle.stacking.proofs.TouchedLemmas.{among-append}
use Rattle.stacking.proofs.changes.push_removed.Goals as goal

pub returns : goal.returns
returns c =
    let page = c.args.page.now.contents in
    let old = c.args.ids.now.items in
    let tree = ids_in (tree_of page c.args.id) in
    ok-weaker c.push_tree.result _ _ (λ x known.
    known
    ∙ ap (λ xs. xs ++ contexts_among page tree) (c.in_ok-push_context.ensures ∙ ap (λ (k : ℕ). old ++ contexts_among page (k ∷ [])) c.context_of.ensures)
    ∙ append_assoc old (contexts_among page (context_of page c.args.id ∷ [])) (contexts_among page tree)
    ∙ ap (λ xs. old ++ xs) (sym (among-append page (context_of page c.args.id ∷ []) tree))) c.push_tree.ensures
