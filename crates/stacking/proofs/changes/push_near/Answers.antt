-- The context above, the node, and its children.
use Rattle.std.proofs.Common.{ℕ, List, [], ◌∷◌, ◌++◌, sym, ap, ◌∙◌, append_assoc}
use Rattle.box_tree.specs.Forest.{roots_of}
use Rattle.box_tree.proofs.SubtreeLemmas.{children_is, below_of-seen}
use Rattle.stacking.specs.Contexts.{context_of}
use Rattle.stacking.specs.Touched.{contexts_among}
use Rattle.stacking.proofs.SeenLemmas.{ok-weaker}
use Rattle.stacking.proofs.TouchedLemmas.{among-append}
use Rattle.stacking.proofs.changes.push_near.Goals as goal

pub returns : goal.returns
returns c =
    let page = c.args.page.now.contents in
    let id = c.args.id in
    let old = c.args.ids.now.items in
    let above = contexts_among page (context_of page id ∷ []) in
    let own = contexts_among page (id ∷ []) in
    let items = c.as_slice.result.now in
    let children = c.as_slice.ensures ∙ children_is page c.requires.valid id c.read.result.now c.read.ensures ∙ ap roots_of (sym (below_of-seen page c.requires.valid id c.read.result.now c.read.ensures)) in
    ok-weaker c.push_contexts.result _ _ (λ x known.
    known
    ∙ ap (λ xs. xs ++ contexts_among page items) (c.in_ok-push_context-2.ensures ∙ ap (λ xs. xs ++ own) (c.in_ok-push_context.ensures ∙ ap (λ (k : ℕ). old ++ contexts_among page (k ∷ [])) c.context_of.ensures))
    ∙ append_assoc (old ++ above) own (contexts_among page items)
    ∙ append_assoc old above (own ++ contexts_among page items)
    ∙ ap (λ xs. old ++ (above ++ xs)) (sym (among-append page (id ∷ []) items))
    ∙ ap (λ xs. old ++ xs) (sym (among-append page (context_of page id ∷ []) (id ∷ items)))
    ∙ ap (λ (xs : List ℕ). old ++ contexts_among page (context_of page id ∷ (id ∷ xs))) children) c.push_contexts.ensures
