-- What taking out the ids that are left makes of the table is what all of them made of the one before.
use Rattle.std.proofs.Common.{◌≡◌, ◌+◌, ℕ, length, drop}
use Rattle.spaces.specs.Table.{entry_under}
use Rattle.spaces.proofs.TableLemmas.{cleared}
use Rattle.spaces.proofs.table.SpaceTable.take_out.Given as goal

abbrev pub invariant-loop-id : goal.invariant-loop-id
invariant-loop-id g l = record {
  entries : (x : ℕ) → cleared (drop l.id-index l.removed) x (entry_under l.self x) ≡ cleared l.removed x (entry_under l.initial.self x);
  room : length l.self ≡ length l.initial.self;
  cost : l.steps ≡ l.initial.steps + l.id-index;
}
