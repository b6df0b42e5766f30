-- Each list is one of the page, and so are those that stand, so it may be put.
use Rattle.std.proofs.Common.{◌<◌, ◌≤◌, ◌==◌, ℕ, List, Some, if◌then◌else◌, length, drop, sym, ap, subst, ◌∙◌, arith}
use Rattle.std.specs.Prelude.{All}
use Rattle.std.proofs.lemmas.List.{drop_all, length_push, length-set}
use Rattle.std.proofs.lemmas.Iterator.Consumers.{YieldsList-turn, YieldsList-end}
use Rattle.std.proofs.lemmas.Iterator.Adapters.{YieldsList-from_vec}
use Rattle.paint_order.specs.declared.entry.Entry.{Entry}
use Rattle.paint_order.specs.Lists.{list_under, IsInRoom, AreDistinct, StandNowhereElse}
use Rattle.paint_order.specs.State.{State, list_room}
use Rattle.stacking.specs.Lists.{kept_list}
use Rattle.tree_edits.specs.Exchange.{ContextList, IsListOf}
use Rattle.tree_edits.proofs.ExchangeLemmas.{given-context, put-only, all-put}
use Rattle.tree_edits.proofs.TableLemmas.{Slot, all_made, all_made-step, under-set, each-at, all-room-more}
use Rattle.tree_edits.proofs.lists.put_lists.Goals as goal

pub put_list-requires-clause-list : goal.put_list-requires-clause-list
put_list-requires-clause-list g c =
    let page = c.args.page.now.contents in
    let items = c.args.page.now.items in
    let fresh = c.args.fresh.items in
    let started = c.into_iter-list-iterator.ensures.into_iter_gives in
    let turn = YieldsList-turn (YieldsList-from_vec {s = c.into_iter-list-iterator.result} fresh started.0 (omega (arith, started.1, c.args.fresh.ok.0))) c.loop-list.yielded c.loop-list.list-iterator c.loop-list.yielded_by c.next.result c.next.new.self c.in-Some.list c.in-Some.is c.next.ensures.steps in
    let mine = subst (IsListOf page items) (sym (c.list.view_is ∙ turn.1)) (each-at (IsListOf page items) fresh (length c.loop-list.yielded) c.in-Some.list c.requires.lists turn.0) in
    let context = c.list.inside.context in
    omega (arith, (given-context page context c.validity.ensures mine.real).1, c.requires.room.for_lists, c.loop-list.invariant.list_room)

pub put_list-requires-clause-room : goal.put_list-requires-clause-room
put_list-requires-clause-room g c =
    let page = c.args.page.now.contents in
    let items = c.args.page.now.items in
    let fresh = c.args.fresh.items in
    let started = c.into_iter-list-iterator.ensures.into_iter_gives in
    let turn = YieldsList-turn (YieldsList-from_vec {s = c.into_iter-list-iterator.result} fresh started.0 (omega (arith, started.1, c.args.fresh.ok.0))) c.loop-list.yielded c.loop-list.list-iterator c.loop-list.yielded_by c.next.result c.next.new.self c.in-Some.list c.in-Some.is c.next.ensures.steps in
    let mine = subst (IsListOf page items) (sym (c.list.view_is ∙ turn.1)) (each-at (IsListOf page items) fresh (length c.loop-list.yielded) c.in-Some.list c.requires.lists turn.0) in
    let context = c.list.inside.context in
    let room = c.loop-list.forest.item_room in
    let kept = kept_list items page context in
    let numbers = c.lists_may_be_put.ensures.in_room page items c.args.forest.now.item_room context c.validity.ensures c.numbering.ensures c.requires.room.for_items mine.real in
    subst (λ (es : List Entry). All (IsInRoom room (list_room c.loop-list.forest)) es) (sym mine.listed)
    (all-room-more room page.next (list_room c.loop-list.forest) kept (omega (arith, c.requires.room.for_lists, c.loop-list.invariant.list_room))
    (subst (λ (r : ℕ). All (IsInRoom r page.next) kept) (sym c.loop-list.invariant.item_room) numbers))

pub put_list-requires-clause-distinct : goal.put_list-requires-clause-distinct
put_list-requires-clause-distinct g c =
    let page = c.args.page.now.contents in
    let items = c.args.page.now.items in
    let fresh = c.args.fresh.items in
    let started = c.into_iter-list-iterator.ensures.into_iter_gives in
    let turn = YieldsList-turn (YieldsList-from_vec {s = c.into_iter-list-iterator.result} fresh started.0 (omega (arith, started.1, c.args.fresh.ok.0))) c.loop-list.yielded c.loop-list.list-iterator c.loop-list.yielded_by c.next.result c.next.new.self c.in-Some.list c.in-Some.is c.next.ensures.steps in
    let mine = subst (IsListOf page items) (sym (c.list.view_is ∙ turn.1)) (each-at (IsListOf page items) fresh (length c.loop-list.yielded) c.in-Some.list c.requires.lists turn.0) in
    let context = c.list.inside.context in
    subst AreDistinct (sym mine.listed) (c.lists_may_be_put.ensures.distinct page items context c.validity.ensures c.numbering.ensures mine.real)

pub put_list-requires-clause-nowhere_else : goal.put_list-requires-clause-nowhere_else
put_list-requires-clause-nowhere_else g c =
    let page = c.args.page.now.contents in
    let items = c.args.page.now.items in
    let fresh = c.args.fresh.items in
    let started = c.into_iter-list-iterator.ensures.into_iter_gives in
    let turn = YieldsList-turn (YieldsList-from_vec {s = c.into_iter-list-iterator.result} fresh started.0 (omega (arith, started.1, c.args.fresh.ok.0))) c.loop-list.yielded c.loop-list.list-iterator c.loop-list.yielded_by c.next.result c.next.new.self c.in-Some.list c.in-Some.is c.next.ensures.steps in
    let mine = subst (IsListOf page items) (sym (c.list.view_is ∙ turn.1)) (each-at (IsListOf page items) fresh (length c.loop-list.yielded) c.in-Some.list c.requires.lists turn.0) in
    let context = c.list.inside.context in
    subst (λ (es : List Entry). StandNowhereElse c.loop-list.forest.lists context es) (sym mine.listed)
    (c.lists_may_be_put.ensures.nowhere_else page items c.loop-list.forest.lists context c.validity.ensures c.numbering.ensures mine.real c.loop-list.invariant.only)

pub loop-list-preserved : goal.loop-list-preserved
loop-list-preserved g c =
    let page = c.args.page.now.contents in
    let items = c.args.page.now.items in
    let fresh = c.args.fresh.items in
    let started = c.into_iter-list-iterator.ensures.into_iter_gives in
    let turn = YieldsList-turn (YieldsList-from_vec {s = c.into_iter-list-iterator.result} fresh started.0 (omega (arith, started.1, c.args.fresh.ok.0))) c.loop-list.yielded c.loop-list.list-iterator c.loop-list.yielded_by c.next.result c.next.new.self c.in-Some.list c.in-Some.is c.next.ensures.steps in
    let mine = subst (IsListOf page items) (sym (c.list.view_is ∙ turn.1)) (each-at (IsListOf page items) fresh (length c.loop-list.yielded) c.in-Some.list c.requires.lists turn.0) in
    let context = c.list.inside.context in
    let entries = c.list.inside.entries.items in
    let before = c.loop-list.forest in
    let after = c.put_list.new.self in
    let within : context < list_room before = omega (arith, (given-context page context c.validity.ensures mine.real).1, c.requires.room.for_lists, c.loop-list.invariant.list_room) in
    let is = λ (n : ℕ). ap (λ (f : State). list_under f.lists n) c.put_list.ensures.put ∙ under-set before.lists context n (Some entries) within in
    let key = λ (list : ContextList). list.context in
    let make = λ (list : ContextList) (o : Slot). Some list.entries in
    let count = length c.loop-list.yielded in
    record {
      lists = λ n.
          ap (λ (k : ℕ). all_made key make (drop k fresh) n (list_under after.lists n)) (length_push c.loop-list.yielded c.in-Some.list)
          ∙ all_made-step key make fresh count n c.in-Some.list (list_under before.lists n) (list_under after.lists n) turn.0
          (is n ∙ ap (λ (list : ContextList). if list.context == n then Some list.entries else list_under before.lists n) (c.list.view_is ∙ turn.1))
          ∙ c.loop-list.invariant.lists n;
      only = put-only page items before.lists after.lists context entries mine.real mine.listed is c.loop-list.invariant.only;
      root = ap (λ (f : State). f.root) c.put_list.ensures.put ∙ c.loop-list.invariant.root;
      item_room = ap (λ (f : State). f.item_room) c.put_list.ensures.put ∙ c.loop-list.invariant.item_room;
      list_room = ap list_room c.put_list.ensures.put ∙ length-set before.lists context (Some entries) ∙ c.loop-list.invariant.list_room;
    }

pub returns-clause-lists : goal.returns-clause-lists
returns-clause-lists g c = λ n.
    let page = c.args.page.now.contents in
    let items = c.args.page.now.items in
    let fresh = c.args.fresh.items in
    let started = c.into_iter-list-iterator.ensures.into_iter_gives in
    let end = YieldsList-end (YieldsList-from_vec {s = c.into_iter-list-iterator.result} fresh started.0 (omega (arith, started.1, c.args.fresh.ok.0))) c.loop-list.yielded c.loop-list.list-iterator c.loop-list.yielded_by c.next.result c.next.new.self c.in-None.is c.next.ensures.steps in
    let all : length fresh ≤ length c.loop-list.yielded = omega (arith, end.1) in
    sym (ap (λ (lists : List ContextList). all_made (λ (list : ContextList). list.context) (λ list o. Some list.entries) lists n (list_under c.loop-list.forest.lists n)) (drop_all (length c.loop-list.yielded) fresh all))
    ∙ c.loop-list.invariant.lists n
    ∙ all-put page items fresh n (list_under c.args.forest.now.lists n) c.requires.lists
