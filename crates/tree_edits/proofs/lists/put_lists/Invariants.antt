-- What putting the lists that are left makes of the table is what putting all of them made of the one before; and at no time
-- does the table have a list that is not of the page.
use Rattle.std.proofs.Common.{◌≡◌, ℕ, Some, length, drop}
use Rattle.paint_order.specs.Lists.{list_under}
use Rattle.paint_order.specs.State.{list_room}
use Rattle.stacking.specs.Lists.{HasOnlyListsOf}
use Rattle.tree_edits.specs.Exchange.{ContextList}
use Rattle.tree_edits.proofs.TableLemmas.{all_made}
use Rattle.tree_edits.proofs.lists.put_lists.Given as goal

abbrev pub invariant-loop-list : goal.invariant-loop-list
invariant-loop-list g l = record {
  lists : (n : ℕ) → all_made (λ (list : ContextList). list.context) (λ list o. Some list.entries) (drop (length l.yielded) l.fn.fresh.items) n (list_under l.forest.lists n)
      ≡ all_made (λ (list : ContextList). list.context) (λ list o. Some list.entries) l.fn.fresh.items n (list_under l.initial.forest.lists n);
  only : HasOnlyListsOf l.forest.lists l.page.contents l.page.items;
  root : l.forest.root ≡ l.initial.forest.root;
  item_room : l.forest.item_room ≡ l.initial.forest.item_room;
  list_room : list_room l.forest ≡ list_room l.initial.forest;
}
