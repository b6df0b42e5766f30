-- Each id stands, so it is in the room.
use Rattle.std.proofs.Common.{ℕ, List, [], Some, get_or, refl, sym, ap, ◌∙◌, arith}
use Rattle.std.proofs.lemmas.List.{drop_all}
use Rattle.paint_order.specs.Lists.{list_under}
use Rattle.tree_edits.proofs.TableLemmas.{all_made, made-of_ids, stands-within, among-at}
use Rattle.tree_edits.proofs.lists.clear_lists.Goals as goal

pub put_list-requires-clause-list : goal.put_list-requires-clause-list
put_list-requires-clause-list g c =
    let k = c.loop-id.id-index in
    let id = get_or c.args.ids.now k 0 in
    let within = stands-within c.args.forest.now.lists id (c.requires id (among-at c.args.ids.now k c.loop-id-test.true)) in
    omega (arith, within, c.loop-id.invariant.list_room)

pub returns-clause-lists : goal.returns-clause-lists
returns-clause-lists g c = λ n.
    sym (ap (λ (ids : List ℕ). all_made (λ id. id) (λ id o. Some []) ids n (list_under c.loop-id.forest.lists n)) (drop_all c.loop-id.id-index c.args.ids.now c.loop-id-test.false))
    ∙ c.loop-id.invariant.lists n
    ∙ made-of_ids (λ id o. Some []) n (λ o. refl) c.args.ids.now (list_under c.args.forest.now.lists n)
