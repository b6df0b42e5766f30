-- Either the rest of the list is free, or what was free last stands in it again.
use Rattle.std.proofs.Common.{◌≡◌, ◌<◌, ◌-◌, ℕ, List, length, sym, ap, ◌∙◌, subst, arith}
use Rattle.box_tree.specs.Numbers.{ItemsState, KeptItems, items_state, numbers_of}
use Rattle.box_tree.specs.Renumbered.{back_one, with_again, CanHaveAgain}
use Rattle.box_tree.specs.Sound.{AreSound}
use Rattle.box_tree.proofs.FollowLemmas.{back-again}
use Rattle.box_tree.proofs.ItemsStates.{state_again}
use Rattle.box_tree.proofs.NumberLemmas.{sound-again}
use Rattle.box_tree.proofs.items.Items.back.Goals as goal

seen : (c : goal.Joined-exchange) → items_state c.self.inside.given.items c.self.inside.free.items c.self.inside.lists.items ≡ c.args.self.now.items
seen c = ap (λ (kept : KeptItems). kept.items) c.self.view_is

had : (c : goal.Joined-exchange) → length c.of-count.result.now ≡ length (numbers_of (items_state c.self.inside.given.items c.self.inside.free.items c.self.inside.lists.items) c.args.earlier.id)
had c = ap (λ (l : List ℕ). length l) (c.of-count.ensures ∙ ap (λ (s : ItemsState). numbers_of s c.args.earlier.id) (sym (seen c)))

more : (c : goal.Joined-exchange) → length (numbers_of (items_state c.self.inside.given.items c.self.inside.free.items c.self.inside.lists.items) c.args.earlier.id) < length c.args.earlier.list.items
more c = omega (arith, had c, c.if-len-count.false, c.len.ensures.value)

-- what the numbers are then
after : (c : goal.Joined-exchange) → items_state c.self.inside.given.items c.truncate.new.self.items c.exchange.new.lists.items ≡ with_again c.args.earlier.id c.args.earlier.list.items (items_state c.self.inside.given.items c.self.inside.free.items c.self.inside.lists.items)
after c =
    state_again c.self.inside.given.items c.self.inside.free.items c.truncate.new.self.items c.self.inside.lists.items c.exchange.new.lists.items c.args.earlier.id (c.len-2.result - (c.len-3.result - length c.of-count.result.now)) c.args.earlier.list.items c.exchange.ensures.lists
    (omega (arith, c.len-2.ensures, c.len-3.ensures.value, had c, c.self.inside.free.ok.0)) c.truncate.ensures.items

pub invariant_of-self : goal.invariant_of-self
invariant_of-self c = (
  subst AreSound (sym (after c))
      (sound-again (items_state c.self.inside.given.items c.self.inside.free.items c.self.inside.lists.items) c.self.invariant.0 c.args.earlier (omega (arith, more c)) (subst (CanHaveAgain c.args.earlier) (sym (seen c)) c.requires)),
  omega (arith, c.self.invariant.1, c.truncate.ensures.capacity),
)

pub returns : goal.returns
returns c = after c ∙ sym (back-again c.args.earlier _ (more c)) ∙ ap (back_one c.args.earlier) (seen c)
