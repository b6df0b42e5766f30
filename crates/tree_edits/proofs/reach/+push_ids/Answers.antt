-- The walk: the node itself, and then its children one after another.
use Rattle.std.proofs.Common.{◌≡◌, ◌++◌, ◌<◌, ◌≤◌, ℕ, List, length, sym, ap, ◌∙◌, subst, arith, append_assoc, get_or}
use Rattle.std.proofs.lemmas.List.{append-nil}
use Rattle.box_tree.proofs.SubtreeLemmas.{ids-start, ids-step, ids-end, ancestor_count-child, few_ancestors}
use Rattle.tree_edits.proofs.reach.+push_ids.Goals as goal

pub loop-child-init : goal.loop-child-init
loop-child-init g t c = rw (c.in_ok-push.ensures.items, append_assoc) (ap (λ xs. c.args.ids.now.items ++ xs) (ids-start c.args.page.now.contents c.requires c.args.id c.node-node.result.now c.node-node.ensures.node))

pub push_ids-requires : goal.push_ids-requires
push_ids-requires g t c κs within =
    let page = c.args.page.now.contents in
    let node = c.node-node.result.now in
    let k = c.loop-child.child-index in
    let child = get_or c.as_slice-child-items.result.now k 0 in
    let items_are : c.as_slice-child-items.result.now ≡ node.children = c.as_slice-child-items.ensures in
    let in_list : k < length node.children = subst (λ (ids : List ℕ). k < length ids) items_are c.loop-child-test.true in
    let is : get_or node.children k 0 ≡ child = ap (λ (ids : List ℕ). get_or ids k 0) (sym items_are) in
    let count = ancestor_count-child page c.requires c.args.id node c.node-node.ensures.node k child 0 in_list is in
    let few = few_ancestors page c.requires c.args.id node c.node-node.ensures.node in
    (omega (arith, count, few), (within, c.requires))

pub loop-child-preserved : goal.loop-child-preserved
loop-child-preserved g t c =
    let page = c.args.page.now.contents in
    let node = c.node-node.result.now in
    let k = c.loop-child.child-index in
    let child = get_or c.as_slice-child-items.result.now k 0 in
    let items_are : c.as_slice-child-items.result.now ≡ node.children = c.as_slice-child-items.ensures in
    let in_list : k < length node.children = subst (λ (ids : List ℕ). k < length ids) items_are c.loop-child-test.true in
    let is : get_or node.children k 0 ≡ child = ap (λ (ids : List ℕ). get_or ids k 0) (sym items_are) in
    let step = ids-step page c.requires c.args.id node c.node-node.ensures.node k child 0 in_list is in
    rw (c.in_ok-push_ids.ensures, append_assoc, ← step) c.loop-child.invariant

pub returns : goal.returns
returns g t c =
    let page = c.args.page.now.contents in
    let node = c.node-node.result.now in
    let items_are : c.as_slice-child-items.result.now ≡ node.children = c.as_slice-child-items.ensures in
    let all : length node.children ≤ c.loop-child.child-index = subst (λ (ids : List ℕ). length ids ≤ c.loop-child.child-index) items_are c.loop-child-test.false in
    let end = ids-end page c.requires c.args.id node c.node-node.ensures.node c.loop-child.child-index all in
    sym (append-nil c.loop-child.ids.items) ∙ ap (λ xs. c.loop-child.ids.items ++ xs) (sym end) ∙ c.loop-child.invariant
