-- Each id stands once, so those that are left stand when it is their turn.
use Rattle.std.proofs.Common.{◌≡◌, ◌≢◌, ℕ, List, None, Bool, true, false, if◌then◌else◌, get_or, refl, sym, ap, subst, ◌∙◌}
use Rattle.std.specs.Prelude.{◌&&◌, not}
use Rattle.std.proofs.lemmas.List.{drop_all}
use Rattle.box_tree.specs.Containing.{makes_context}
use Rattle.box_tree.specs.Planned.{is_among}
use Rattle.paint_order.specs.Lists.{list_under}
use Rattle.tree_edits.proofs.TableLemmas.{Slot, all_made, all_made-step, made-of_ids, among-at, among-left, stand-step}
use Rattle.tree_edits.proofs.lists.drop_lists.Goals as goal

pub drop_unless_context-requires-clause-stands : goal.drop_unless_context-requires-clause-stands
drop_unless_context-requires-clause-stands g c =
    let k = c.loop-id.id-index in
    c.loop-id.invariant.stand (get_or c.args.ids.now k 0) (among-left c.args.ids.now k c.loop-id-test.true)

pub drop_unless_context-requires-clause-root : goal.drop_unless_context-requires-clause-root
drop_unless_context-requires-clause-root g c = λ plain.
    let k = c.loop-id.id-index in
    let id = get_or c.args.ids.now k 0 in
    subst (λ (root : ℕ). id ≢ root) (sym c.loop-id.invariant.root) (c.requires.root id (among-at c.args.ids.now k c.loop-id-test.true) plain)

pub loop-id-preserved : goal.loop-id-preserved
loop-id-preserved g c =
    let k = c.loop-id.id-index in
    let ids = c.args.ids.now in
    let page = c.args.page.now.contents in
    let before = c.loop-id.forest.lists in
    let after = c.drop_unless_context.new.forest.lists in
    record {
      lists = λ n. all_made-step (λ id. id) (λ id o. if makes_context page id then o else None) ids k n 0 (list_under before n) (list_under after n) c.loop-id-test.true (c.drop_unless_context.ensures.lists n) ∙ c.loop-id.invariant.lists n;
      stand = stand-step ids k (λ n. if makes_context page (get_or ids k 0) then list_under before n else None) before after c.loop-id-test.true c.requires.once c.drop_unless_context.ensures.lists c.loop-id.invariant.stand;
      root = c.drop_unless_context.ensures.root ∙ c.loop-id.invariant.root;
    }

again : (b : Bool) (o : Slot) → (if b then (if b then o else None) else None) ≡ (if b then o else None)
again true o = refl
again false o = refl

kept : (t m : Bool) (o : Slot) → (if t then (if m then o else None) else o) ≡ (if t && not m then None else o)
kept true true o = refl
kept true false o = refl
kept false m o = refl

pub returns-clause-lists : goal.returns-clause-lists
returns-clause-lists g c = λ n.
    let page = c.args.page.now.contents in
    let make = λ (id : ℕ) (o : Slot). if makes_context page id then o else None in
    sym (ap (λ (ids : List ℕ). all_made (λ id. id) make ids n (list_under c.loop-id.forest.lists n)) (drop_all c.loop-id.id-index c.args.ids.now c.loop-id-test.false))
    ∙ c.loop-id.invariant.lists n
    ∙ made-of_ids make n (again (makes_context page n)) c.args.ids.now (list_under c.args.forest.now.lists n)
    ∙ kept (is_among c.args.ids.now n) (makes_context page n) (list_under c.args.forest.now.lists n)
