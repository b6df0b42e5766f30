-- The rest of the list is free.
use Rattle.std.proofs.Common.{◌≡◌, ◌≤◌, ◌<◌, ◌++◌, ℕ, length, take, drop, sym, ap, ◌∙◌, subst, arith}
use Rattle.box_tree.specs.Numbers.{ItemsState, KeptItems, items_state, numbers_of}
use Rattle.box_tree.specs.Sound.{AreSound}
use Rattle.box_tree.specs.Renumbered.{with_fewer}
use Rattle.box_tree.proofs.ItemsStates.{state_fewer}
use Rattle.box_tree.proofs.NumberLemmas.{sound-fewer}
use Rattle.box_tree.proofs.items.Items.fewer.Goals as goal

-- what the numbers are then
after : (c : goal.After-release) → items_state c.self.inside.given.items c.release.new.free.items c.exchange-had.new.lists.items ≡ with_fewer c.args.id c.args.list.items (items_state c.self.inside.given.items c.self.inside.free.items c.self.inside.lists.items)
after c =
    state_fewer c.self.inside.given.items c.self.inside.free.items c.release.new.free.items c.self.inside.lists.items c.exchange-had.new.lists.items c.args.id c.args.list.items c.as_slice.result.now c.exchange-had.ensures.lists
    (c.as_slice.ensures ∙ c.exchange-had.ensures.had) (c.release.ensures.items ∙ ap (λ (n : ℕ). c.self.inside.free.items ++ drop n c.as_slice.result.now) c.len-kept.ensures.value)

pub invariant_of-self : goal.invariant_of-self
invariant_of-self c =
    let inside : ItemsState = items_state c.self.inside.given.items c.self.inside.free.items c.self.inside.lists.items in
    let seen : inside ≡ c.args.self.now.items = ap (λ (kept : KeptItems). kept.items) c.self.view_is in (
      subst AreSound (sym (after c))
          (sound-fewer inside c.self.invariant.0 c.args.id c.args.list.items
          (subst (λ (s : ItemsState). c.args.id < length s.lists) (sym seen) c.requires.placed)
          (subst (λ (s : ItemsState). length c.args.list.items ≤ length (numbers_of s c.args.id)) (sym seen) c.requires.fewer)
          (subst (λ (s : ItemsState). take (length c.args.list.items) (numbers_of s c.args.id) ≡ c.args.list.items) (sym seen) c.requires.front)),
      omega (arith, c.self.invariant.1, c.release.ensures.capacity),
    )

pub returns-clause-numbers : goal.returns-clause-numbers
returns-clause-numbers c = after c ∙ ap (λ (kept : KeptItems). with_fewer c.args.id c.args.list.items kept.items) c.self.view_is
