-- The list is filled up, and stands for the one that the node had.
use Rattle.std.proofs.Common.{◌≡◌, ◌<◌, ◌++◌, List, ℕ, length, sym, ap, ◌∙◌, subst}
use Rattle.std.specs.Prelude.{OnOk}
use Rattle.box_tree.specs.Numbers.{ItemsState, KeptItems, items_state, numbers_of}
use Rattle.box_tree.specs.Renumbered.{IsFilled, IsGrown}
use Rattle.box_tree.proofs.ItemsStates.{state_lists}
use Rattle.box_tree.proofs.NumberLemmas.{is_grown}
use Rattle.box_tree.proofs.items.Items.more.Goals as goal

pub returns-clause-grown : goal.returns-clause-grown
returns-clause-grown c =
    let inside : ItemsState = items_state c.self.inside.given.items c.self.inside.free.items c.self.inside.lists.items in
    let seen : inside ≡ c.args.self.now.items = ap (λ (kept : KeptItems). kept.items) c.self.view_is in
    let list_is : c.extend_from_slice.new.self.items ≡ numbers_of inside c.args.id =
    subst (λ r. OnOk r (c.extend_from_slice.new.self.items ≡ c.args.list.items ++ c.of.result.now)) c.unwrap.ensures c.extend_from_slice.ensures.ok
    ∙ ap (λ (l : List ℕ). l ++ c.of.result.now) c.requires.none ∙ c.of.ensures ∙ ap (λ (s : ItemsState). numbers_of s c.args.id) (sym seen) in
    let filled : IsFilled c.args.id c.args.kind (numbers_of inside c.args.id) inside.given inside.free c.fill.new.list.items c.fill.new.given.items c.fill.new.free.items =
    subst (λ (l : List ℕ). IsFilled c.args.id c.args.kind l inside.given inside.free c.fill.new.list.items c.fill.new.given.items c.fill.new.free.items) list_is c.fill.ensures.filled in
    subst (λ (s : ItemsState). IsGrown c.args.id c.args.kind c.args.count s (items_state c.fill.new.given.items c.fill.new.free.items c.exchange.new.lists.items)) seen
    (subst (λ (s : ItemsState). IsGrown c.args.id c.args.kind c.args.count inside s) (sym (state_lists c.fill.new.given.items c.fill.new.free.items c.exchange.new.lists.items _ c.exchange.ensures.lists))
    (is_grown inside c.self.invariant.0 c.args.id c.args.kind c.fill.new.list.items c.fill.new.given.items c.fill.new.free.items (subst (λ (s : ItemsState). c.args.id < length s.lists) (sym seen) c.requires.placed) filled c.args.count c.fill.ensures.count))
