-- The node itself, then a child with all below it, and then the other children.
use Rattle.std.proofs.Common.{◌≡◌, ◌==◌, ◌<◌, ◌≤◌, ℕ, List, length, get_or, subst, sym, ap, ◌∙◌, arith}
use Rattle.spaces.specs.Around.{IsAround}
use Rattle.box_tree.specs.Forest.{Label}
use Rattle.spaces.proofs.WalkLemmas.{not_deepest}
use Rattle.spaces.proofs.WrittenLemmas.{walked-start, walked-leaf, walked-step, walked-beyond, walked-end, child-there, child-above, child-deeper, if_err-from_and}
use Rattle.spaces.proofs.table.walk.+renew_from.Goals as goal

pub loop-child-init : goal.loop-child-init
loop-child-init g t c =
    walked-start c.args.page.now.contents c.requires.valid c.args.id c.node-node.result.now c.node-node.ensures.node c.args.change.now c.put.new.self
    c.in_ok-entry.entry c.in_ok-entry.ensures.entry c.in_ok-entry.ensures.bounded c.in_ok-put.ensures.entries c.in_ok-put.ensures.count

pub renew_from-requires : goal.renew_from-requires
renew_from-requires g t c κs within =
    let page = c.args.page.now.contents in
    let k = c.loop-child.child-index in
    let node = c.node-node.result.now in
    let child = get_or c.as_slice-child-items.result.now k 0 in
    let in_list : k < length node.children = subst (λ (ids : List ℕ). k < length ids) c.as_slice-child-items.ensures c.loop-child-test.true in
    let is : get_or node.children k 0 ≡ child = ap (λ (ids : List ℕ). get_or ids k 0) (sym c.as_slice-child-items.ensures) in
    let deep = child-deeper page c.requires.valid c.args.id node c.node-node.ensures.node k child 0 in_list is in
    let few = not_deepest page c.requires.valid child in
    let around : IsAround page.viewport _ c.inside-inside.result = subst (λ (above : List Label). IsAround page.viewport above c.inside-inside.result) (sym (child-above page c.requires.valid c.args.id node c.node-node.ensures.node k child 0 in_list is)) c.inside-inside.ensures in
    (omega (arith, deep, few), (within, (c.requires.valid, (child-there page c.requires.valid c.args.id node c.node-node.ensures.node k child 0 in_list is, around))))

pub returns-in_err-renew_from-clause-beyond : goal.returns-in_err-renew_from-clause-beyond
returns-in_err-renew_from-clause-beyond g t c =
    let page = c.args.page.now.contents in
    let k = c.loop-child.child-index in
    let node = c.node-node.result.now in
    let child = get_or c.as_slice-child-items.result.now k 0 in
    let in_list : k < length node.children = subst (λ (ids : List ℕ). k < length ids) c.as_slice-child-items.ensures c.loop-child-test.true in
    let is : get_or node.children k 0 ≡ child = ap (λ (ids : List ℕ). get_or ids k 0) (sym c.as_slice-child-items.ensures) in
    if_err-from_and c.from_residual-in_err-renew_from.result _ _ c.from_residual-in_err-renew_from.ensures.1
    (λ why why_is bound. walked-beyond page c.requires.valid c.args.id node c.node-node.ensures.node c.args.change.now c.loop-child.change k child 0 in_list is c.loop-child.invariant (c.in_err-renew_from.ensures.beyond (sym why_is ∙ bound)))

pub loop-child-preserved : goal.loop-child-preserved
loop-child-preserved g t c =
    let page = c.args.page.now.contents in
    let k = c.loop-child.child-index in
    let node = c.node-node.result.now in
    let child = get_or c.as_slice-child-items.result.now k 0 in
    let in_list : k < length node.children = subst (λ (ids : List ℕ). k < length ids) c.as_slice-child-items.ensures c.loop-child-test.true in
    let is : get_or node.children k 0 ≡ child = ap (λ (ids : List ℕ). get_or ids k 0) (sym c.as_slice-child-items.ensures) in
    walked-step page c.requires.valid c.args.id node c.node-node.ensures.node c.args.change.now c.loop-child.change k child 0 in_list is c.loop-child.invariant
    c.renew_from.new.change c.in_ok-renew_from.ensures.entries c.in_ok-renew_from.ensures.count c.in_ok-renew_from.ensures.bounded

pub returns-clause-entries : goal.returns-clause-entries
returns-clause-entries g t c =
    (walked-end c.args.page.now.contents c.requires.valid c.args.id c.node-node.result.now c.node-node.ensures.node c.args.change.now c.loop-child.change c.loop-child.child-index c.loop-child.invariant
    (subst (λ (ids : List ℕ). length ids ≤ c.loop-child.child-index) c.as_slice-child-items.ensures c.loop-child-test.false)).entries

pub returns-clause-count : goal.returns-clause-count
returns-clause-count g t c =
    (walked-end c.args.page.now.contents c.requires.valid c.args.id c.node-node.result.now c.node-node.ensures.node c.args.change.now c.loop-child.change c.loop-child.child-index c.loop-child.invariant
    (subst (λ (ids : List ℕ). length ids ≤ c.loop-child.child-index) c.as_slice-child-items.ensures c.loop-child-test.false)).count

pub returns-clause-bounded : goal.returns-clause-bounded
returns-clause-bounded g t c =
    (walked-end c.args.page.now.contents c.requires.valid c.args.id c.node-node.result.now c.node-node.ensures.node c.args.change.now c.loop-child.change c.loop-child.child-index c.loop-child.invariant
    (subst (λ (ids : List ℕ). length ids ≤ c.loop-child.child-index) c.as_slice-child-items.ensures c.loop-child-test.false)).bounded

pub returns-then-is_empty-clause-entries : goal.returns-then-is_empty-clause-entries
returns-then-is_empty-clause-entries g t c =
    (walked-leaf c.args.page.now.contents c.requires.valid c.args.id c.node-node.result.now c.node-node.ensures.node c.args.change.now c.put.new.self
    c.in_ok-entry.entry c.in_ok-entry.ensures.entry c.in_ok-entry.ensures.bounded c.in_ok-put.ensures.entries c.in_ok-put.ensures.count
    (ap (λ (ids : List ℕ). length ids == 0) (sym c.as_slice.ensures) ∙ sym c.is_empty.ensures ∙ c.if-is_empty.true)).entries

pub returns-then-is_empty-clause-bounded : goal.returns-then-is_empty-clause-bounded
returns-then-is_empty-clause-bounded g t c =
    (walked-leaf c.args.page.now.contents c.requires.valid c.args.id c.node-node.result.now c.node-node.ensures.node c.args.change.now c.put.new.self
    c.in_ok-entry.entry c.in_ok-entry.ensures.entry c.in_ok-entry.ensures.bounded c.in_ok-put.ensures.entries c.in_ok-put.ensures.count
    (ap (λ (ids : List ℕ). length ids == 0) (sym c.as_slice.ensures) ∙ sym c.is_empty.ensures ∙ c.if-is_empty.true)).bounded
