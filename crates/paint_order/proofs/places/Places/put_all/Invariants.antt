use Rattle.std.proofs.Common.{◌≡◌, ◌≢◌, ℕ, ◌+◌, ◌<◌, Some, slice_get, length}
use Rattle.paint_order.specs.declared.entry.Entry.{Entry}
use Rattle.paint_order.specs.Places.{place, place_of}
use Rattle.paint_order.proofs.places.Places.put_all.Given as goal

abbrev pub invariant-loop-at : goal.invariant-loop-at
invariant-loop-at g l = record {
  put : (k : ℕ) (entry : Entry) → k < l.at → slice_get l.entries k ≡ Some entry
      → place_of l.self entry ≡ Some (place l.list k);
  others : (other : Entry) → ((k : ℕ) → k < l.at → slice_get l.entries k ≢ Some other)
      → place_of l.self other ≡ place_of l.initial.self other;
  items : length l.self.items ≡ length l.initial.self.items;
  lists : length l.self.lists ≡ length l.initial.self.lists;
  cost : l.steps ≡ l.initial.steps + l.at;
}
