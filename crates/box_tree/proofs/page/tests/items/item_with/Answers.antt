use Rattle.std.proofs.Common.{◌≡◌, ◌<◌, ℕ, true, nat_lt, List, length, slice_index_or, subst, sym, arith}
use Rattle.std.proofs.lemmas.Bool.Decides.{nat_tests}
use Rattle.std.proofs.lemmas.List.{get_or_default}
use Rattle.box_tree.specs.declared.item.Item.{Item}
use Rattle.box_tree.specs.declared.item.Part.TheVariants.{Outline}
use Rattle.box_tree.specs.Numbers.{ItemsState, IsNumber, IsNumbered, numbers_of}
use Rattle.box_tree.proofs.page.tests.items.item_with.Goals as goal

-- each number of a node is that of an item
is_number-at : (s : ItemsState) (items : ℕ → List Item) → IsNumbered s items → (id place other : ℕ) → true ≡ nat_lt place (length (numbers_of s id)) → IsNumber s (slice_index_or (numbers_of s id) place other)
is_number-at s items numbered id place other there =
    let within : place < length (numbers_of s id) = grind (arith, nat_tests) in
    let none : Item = record { node = 0; part = Outline } in
    let named = numbered.named id place none (subst (λ (k : ℕ). place < k) (numbered.count id) within) in
    subst (IsNumber s) (get_or_default (numbers_of s id) place 0 other within) (slice_index_or (items id) place none, named)

pub item-requires : goal.item-requires
item-requires g c =
    let s = c.args.page.now.items in
    let n = c.in_ok-number.field-0.now in
    let found = c.in_ok-number.ensures.lookup in
    let named = subst (λ (list : List ℕ). true ≡ nat_lt c.args.place (length list) → IsNumber s (slice_index_or list c.args.place n)) (sym c.items_of.ensures.numbers) (is_number-at s _ c.numbering.ensures.in_order c.args.id c.args.place n) in
    subst (IsNumber s) (sym found.1) (named found.0)
