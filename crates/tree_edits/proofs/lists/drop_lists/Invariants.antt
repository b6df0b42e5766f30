-- What dropping from the ids that are left makes of the table is what all of them made of the one before; those left stand.
use Rattle.std.proofs.Common.{◌≡◌, ℕ, None, IsTrue, IsSome, drop, if◌then◌else◌}
use Rattle.box_tree.specs.Containing.{makes_context}
use Rattle.box_tree.specs.Planned.{is_among}
use Rattle.paint_order.specs.Lists.{list_under}
use Rattle.tree_edits.proofs.TableLemmas.{all_made}
use Rattle.tree_edits.proofs.lists.drop_lists.Given as goal

abbrev pub invariant-loop-id : goal.invariant-loop-id
invariant-loop-id g l = record {
  lists : (n : ℕ) → all_made (λ id. id) (λ id o. if makes_context l.page.contents id then o else None) (drop l.id-index l.ids) n (list_under l.forest.lists n)
      ≡ all_made (λ id. id) (λ id o. if makes_context l.page.contents id then o else None) l.ids n (list_under l.initial.forest.lists n);
  stand : (id : ℕ) → IsTrue (is_among (drop l.id-index l.ids) id) → IsSome (list_under l.forest.lists id);
  root : l.forest.root ≡ l.initial.forest.root;
}
