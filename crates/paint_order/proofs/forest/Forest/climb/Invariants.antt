use Rattle.std.proofs.Common.{◌≡◌, ◌≤◌, ℕ, ◌+◌, ◌∷◌, length}
use Rattle.paint_order.specs.Paths.{LeadsTo}
use Rattle.paint_order.proofs.forest.Forest.climb.Given as goal

abbrev pub invariant-loop : goal.invariant-loop
invariant-loop g l = record {
  leads : (i : ℕ) → LeadsTo l.self.lists l.fn.from.list (l.fn.from.at ∷ l.fn.path) i
      → LeadsTo l.self.lists l.above.list (l.above.at ∷ l.path) i;
  count : length l.path ≡ length l.fn.path + l.counter;
  cost : l.steps + length l.fn.path ≡ l.initial.steps + length l.path;
  counts : l.initial.steps ≤ l.steps;
}
