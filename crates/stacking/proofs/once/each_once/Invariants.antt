-- What was seen so far, and each of it once.
use Rattle.std.proofs.Common.{◌≡◌, ◌≤◌, ℕ, take}
use Rattle.std.specs.BTreeSet.{contains}
use Rattle.std.specs.Ordering.{nat_cmp}
use Rattle.box_tree.specs.Planned.{is_among, times_in}
use Rattle.stacking.proofs.once.each_once.Given as goal

abbrev pub invariant-loop-id : goal.invariant-loop-id
invariant-loop-id l = record {
  same : (q : ℕ) → is_among l.once.items q ≡ is_among (take l.id-index l.ids) q;
  once : (q : ℕ) → times_in q l.once.items ≤ 1;
  seen_is : (q : ℕ) → contains nat_cmp l.seen q ≡ is_among (take l.id-index l.ids) q;
}
