-- The changes of the items of one node more.
use Rattle.std.proofs.Common.{ℕ, ◌++◌, ◌≤◌, List, length, map, sym, ap, ◌∙◌, arith}
use Rattle.std.proofs.lemmas.List.{append-nil, take_all}
use Rattle.box_tree.specs.Numbers.{numbers_of}
use Rattle.tree_edits.specs.Changes.{numbers_in, moved}
use Rattle.tree_edits.proofs.CellLemmas.{is_among-at, front-more_of}
use Rattle.tree_edits.proofs.changes.push_all_moved.Goals as goal

pub loop-id-init : goal.loop-id-init
loop-id-init g c = sym (append-nil c.args.changes.now.items)

pub push_moved-requires : goal.push_moved-requires
push_moved-requires g c = c.requires _ (is_among-at c.args.ids.now c.loop-id.id-index 0 c.loop-id-test.true)

pub loop-id-preserved : goal.loop-id-preserved
loop-id-preserved g c =
    let page = c.args.page.now in
    c.in_ok-push_moved.ensures
    ∙ front-more_of (moved c.args.bounds.now page.contents page.items) (numbers_of page.items) c.args.changes.now.items c.loop-id.changes.items c.args.ids.now c.loop-id.id-index 0 c.loop-id-test.true c.loop-id.invariant

pub returns : goal.returns
returns g c =
    let page = c.args.page.now in
    let all : length c.args.ids.now ≤ c.loop-id.id-index = omega (arith, c.loop-id-test.false) in
    c.loop-id.invariant
    ∙ ap (λ (xs : List ℕ). c.args.changes.now.items ++ map (moved c.args.bounds.now page.contents page.items) (numbers_in page.items xs)) (take_all c.loop-id.id-index c.args.ids.now all)
