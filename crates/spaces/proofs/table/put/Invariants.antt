-- What the entries that are left make of the table is what all of them made of the one before.
use Rattle.std.proofs.Common.{◌≡◌, ◌+◌, ℕ, length}
use Rattle.spaces.specs.Table.{entry_under, FitsIn}
use Rattle.spaces.proofs.TableLemmas.{put_all}
use Rattle.spaces.proofs.table.put.Given as goal

abbrev pub invariant-loop-id : goal.invariant-loop-id
invariant-loop-id g l = record {
  can_next : (goal.iterator-loop-id g).can_next l.id-iterator;
  is_finite : (goal.iterator-loop-id g).is_finite l.id-iterator;
  fits : FitsIn (length l.slots.items) l.id-iterator;
  entries : (x : ℕ) → put_all l.id-iterator x (entry_under l.slots.items x) ≡ put_all l.fn.kept.entries x (entry_under l.initial.slots.items x);
  room : length l.slots.items ≡ length l.initial.slots.items;
  cost : l.steps + length l.id-iterator ≡ l.initial.steps + length l.fn.kept.entries;
}
