-- What emptying the lists that are left makes of the table is what emptying all of them made of the one before.
use Rattle.std.proofs.Common.{◌≡◌, ℕ, [], Some, drop}
use Rattle.paint_order.specs.Lists.{list_under}
use Rattle.paint_order.specs.State.{list_room}
use Rattle.tree_edits.proofs.TableLemmas.{all_made}
use Rattle.tree_edits.proofs.lists.clear_lists.Given as goal

abbrev pub invariant-loop-id : goal.invariant-loop-id
invariant-loop-id g l = record {
  lists : (n : ℕ) → all_made (λ id. id) (λ id o. Some []) (drop l.id-index l.ids) n (list_under l.forest.lists n) ≡ all_made (λ id. id) (λ id o. Some []) l.ids n (list_under l.initial.forest.lists n);
  root : l.forest.root ≡ l.initial.forest.root;
  item_room : l.forest.item_room ≡ l.initial.forest.item_room;
  list_room : list_room l.forest ≡ list_room l.initial.forest;
}
