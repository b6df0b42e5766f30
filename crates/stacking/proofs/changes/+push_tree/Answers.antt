-- The walk: the node itself, and then its children one after another.
use Rattle.std.proofs.Common.{◌≡◌, ◌++◌, ◌∷◌, [], ◌+◌, ◌<◌, ◌≤◌, ℕ, List, length, sym, ap, ◌∙◌, subst, arith, append_assoc, get_or}
use Rattle.std.proofs.lemmas.List.{append-nil}
use Rattle.box_tree.specs.Forest.{ids_in}
use Rattle.box_tree.specs.Contents.{tree_of, below_of}
use Rattle.box_tree.proofs.PlacedLemmas.{trees_from}
use Rattle.box_tree.proofs.SubtreeLemmas.{ids-start, ids-step, ids-end}
use Rattle.stacking.specs.Touched.{contexts_among}
use Rattle.stacking.proofs.GatherLemmas.{there, deeper, not_deepest}
use Rattle.stacking.proofs.TouchedLemmas.{among-append}
use Rattle.stacking.proofs.changes.+push_tree.Goals as goal

pub loop-child-init : goal.loop-child-init
loop-child-init t c =
    let page = c.args.page.now.contents in
    let below = ids_in (below_of page c.args.id) in
    ap (λ xs. xs ++ contexts_among page below) c.in_ok-push_context.ensures
    ∙ append_assoc c.args.ids.now.items (contexts_among page (c.args.id ∷ [])) (contexts_among page below)
    ∙ ap (λ xs. c.args.ids.now.items ++ xs) (sym (among-append page (c.args.id ∷ []) below))
    ∙ ap (λ xs. c.args.ids.now.items ++ contexts_among page xs) (ids-start page c.requires.valid c.args.id c.read.result.now c.read.ensures)

pub push_tree-requires : goal.push_tree-requires
push_tree-requires t c =
    let page = c.args.page.now.contents in
    let deep = deeper page c.requires.valid c.args.id c.read.result.now c.read.ensures c.as_slice-child-items.result.now c.as_slice-child-items.ensures c.loop-child.child-index c.loop-child-test.true in
    let few = not_deepest page c.requires.valid c.args.id c.read.result.now c.read.ensures c.as_slice-child-items.result.now c.as_slice-child-items.ensures c.loop-child.child-index c.loop-child-test.true in
    (omega (arith, deep, few), (c.requires.valid, there page c.requires.valid c.args.id c.read.result.now c.read.ensures c.as_slice-child-items.result.now c.as_slice-child-items.ensures c.loop-child.child-index c.loop-child-test.true))

pub loop-child-preserved : goal.loop-child-preserved
loop-child-preserved t c =
    let page = c.args.page.now.contents in
    let node = c.read.result.now in
    let k = c.loop-child.child-index in
    let child = get_or c.as_slice-child-items.result.now k 0 in
    let items_are : c.as_slice-child-items.result.now ≡ node.children = c.as_slice-child-items.ensures in
    let in_list : k < length node.children = subst (λ (ids : List ℕ). k < length ids) items_are c.loop-child-test.true in
    let is : get_or node.children k 0 ≡ child = ap (λ (ids : List ℕ). get_or ids k 0) (sym items_are) in
    let left = ids_in (trees_from (k + 1) (below_of page c.args.id)) in
    let step = ids-step page c.requires.valid c.args.id node c.read.ensures k child 0 in_list is in
    ap (λ xs. xs ++ contexts_among page left) c.in_ok-push_tree.ensures
    ∙ append_assoc c.loop-child.ids.items (contexts_among page (ids_in (tree_of page child))) (contexts_among page left)
    ∙ ap (λ xs. c.loop-child.ids.items ++ xs) (sym (among-append page (ids_in (tree_of page child)) left))
    ∙ ap (λ xs. c.loop-child.ids.items ++ contexts_among page xs) (sym step)
    ∙ c.loop-child.invariant

pub returns : goal.returns
returns t c =
    let page = c.args.page.now.contents in
    let node = c.read.result.now in
    let items_are : c.as_slice-child-items.result.now ≡ node.children = c.as_slice-child-items.ensures in
    let all : length node.children ≤ c.loop-child.child-index = subst (λ (ids : List ℕ). length ids ≤ c.loop-child.child-index) items_are c.loop-child-test.false in
    let end = ids-end page c.requires.valid c.args.id node c.read.ensures c.loop-child.child-index all in
    sym (append-nil c.loop-child.ids.items) ∙ ap (λ xs. c.loop-child.ids.items ++ contexts_among page xs) (sym end) ∙ c.loop-child.invariant
