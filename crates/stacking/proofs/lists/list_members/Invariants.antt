-- The entries so far, and those of the members that are left.
use Rattle.std.proofs.Common.{◌≡◌, ◌++◌, drop, map}
use Rattle.std.specs.List.{filter, flat_map}
use Rattle.stacking.specs.Painting.{listed_member, context_members}
use Rattle.stacking.specs.OnPage.{of_node, on_side}
use Rattle.stacking.specs.Lists.{numbered}
use Rattle.stacking.proofs.lists.list_members.Given as goal

abbrev pub invariant-loop-member : goal.invariant-loop-member
invariant-loop-member l =
    l.list.items ++ flat_map (λ m. map (numbered l.page.items) (listed_member m)) (filter (on_side l.side) (drop l.member-index (of_node context_members l.page.contents l.id)))
    ≡ l.fn.list.items ++ flat_map (λ m. map (numbered l.page.items) (listed_member m)) (filter (on_side l.side) (of_node context_members l.page.contents l.id))
