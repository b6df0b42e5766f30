-- The entries so far are those of the items so far.
use Rattle.std.proofs.Common.{◌≡◌, ◌++◌, map, take}
use Rattle.stacking.specs.Painting.{OneItem}
use Rattle.stacking.specs.Lists.{numbered}
use Rattle.stacking.proofs.lists.push_items.Given as goal

abbrev pub invariant-loop-item : goal.invariant-loop-item
invariant-loop-item l = l.list.items ≡ l.fn.list.items ++ map (numbered l.page.items) (map OneItem (take l.item-index l.items))
