-- The lists so far are those of the contexts so far.
use Rattle.std.proofs.Common.{◌≡◌, take}
use Rattle.std.specs.List.{AllByRecursion}
use Rattle.tree_edits.specs.Exchange.{IsListOf, contexts_of}
use Rattle.tree_edits.proofs.lists.make_lists.Given as goal

abbrev pub invariant-loop-id : goal.invariant-loop-id
invariant-loop-id l = record {
  contexts : contexts_of l.lists.items ≡ take l.id-index l.ids;
  lists : AllByRecursion (IsListOf l.page.contents l.page.items) l.lists.items;
}
