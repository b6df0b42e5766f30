-- The levels of the trees below the node, one tree after another, and one for the node itself.
use Rattle.std.proofs.Common.{◌≡◌, ◌<◌, ◌≤◌, ℕ, List, length, sym, ap, subst, arith, get_or}
use Rattle.box_tree.proofs.SubtreeLemmas.{levels-whole, levels-step, levels-end, height-tree_of, ancestor_count-child, few_ancestors}
use Rattle.box_tree.proofs.tree.moves.+levels.Goals as goal

pub levels-deep-requires : goal.levels-deep-requires
levels-deep-requires t c =
    let page = c.args.tree.now.contents in
    let node = c.in-Some.node.now in
    let k = c.loop-child.child-index in
    let child = get_or c.as_slice-child-items.result.now k 0 in
    let items_are : c.as_slice-child-items.result.now ≡ node.children = c.as_slice-child-items.ensures in
    let in_list : k < length node.children = subst (λ (ids : List ℕ). k < length ids) items_are c.loop-child-test.true in
    let is : get_or node.children k 0 ≡ child = ap (λ (ids : List ℕ). get_or ids k 0) (sym items_are) in
    let count = ancestor_count-child page c.requires c.args.id node (sym c.in-Some.ensures) k child 0 in_list is in
    let few = few_ancestors page c.requires c.args.id node (sym c.in-Some.ensures) in
    (omega (arith, count, few), c.requires)

pub loop-child-preserved : goal.loop-child-preserved
loop-child-preserved t c =
    let page = c.args.tree.now.contents in
    let node = c.in-Some.node.now in
    let k = c.loop-child.child-index in
    let child = get_or c.as_slice-child-items.result.now k 0 in
    let items_are : c.as_slice-child-items.result.now ≡ node.children = c.as_slice-child-items.ensures in
    let in_list : k < length node.children = subst (λ (ids : List ℕ). k < length ids) items_are c.loop-child-test.true in
    let is : get_or node.children k 0 ≡ child = ap (λ (ids : List ℕ). get_or ids k 0) (sym items_are) in
    let step = levels-step page c.requires c.args.id node (sym c.in-Some.ensures) k child 0 in_list is in
    omega (arith, step, c.loop-child.invariant, c.levels-deep.ensures.levels, c.max-below.ensures)

pub overflow_add-result : goal.overflow_add-result
overflow_add-result t c =
    let page = c.args.tree.now.contents in
    let node = c.in-Some.node.now in
    let items_are : c.as_slice-child-items.result.now ≡ node.children = c.as_slice-child-items.ensures in
    let all : length node.children ≤ c.loop-child.child-index = subst (λ (ids : List ℕ). length ids ≤ c.loop-child.child-index) items_are c.loop-child-test.false in
    omega (arith, levels-end page c.requires c.args.id node (sym c.in-Some.ensures) c.loop-child.child-index all, c.loop-child.invariant, levels-whole page c.requires c.args.id node (sym c.in-Some.ensures), height-tree_of page c.requires c.args.id)

pub returns-clause-levels : goal.returns-clause-levels
returns-clause-levels t c =
    let page = c.args.tree.now.contents in
    let node = c.in-Some.node.now in
    let items_are : c.as_slice-child-items.result.now ≡ node.children = c.as_slice-child-items.ensures in
    let all : length node.children ≤ c.loop-child.child-index = subst (λ (ids : List ℕ). length ids ≤ c.loop-child.child-index) items_are c.loop-child-test.false in
    omega (arith, levels-end page c.requires c.args.id node (sym c.in-Some.ensures) c.loop-child.child-index all, c.loop-child.invariant, levels-whole page c.requires c.args.id node (sym c.in-Some.ensures))

pub returns-clause-most : goal.returns-clause-most
returns-clause-most t c =
    let page = c.args.tree.now.contents in
    let node = c.in-Some.node.now in
    let items_are : c.as_slice-child-items.result.now ≡ node.children = c.as_slice-child-items.ensures in
    let all : length node.children ≤ c.loop-child.child-index = subst (λ (ids : List ℕ). length ids ≤ c.loop-child.child-index) items_are c.loop-child-test.false in
    omega (arith, levels-end page c.requires c.args.id node (sym c.in-Some.ensures) c.loop-child.child-index all, c.loop-child.invariant, levels-whole page c.requires c.args.id node (sym c.in-Some.ensures), height-tree_of page c.requires c.args.id)
