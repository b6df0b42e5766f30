-- The forest was given the room for what the page tells of its numbers and ids.
use Rattle.std.proofs.Common.{arith}
use Rattle.tree_edits.proofs.lists.ready_lists.Goals as goal

pub returns-clause-room : goal.returns-clause-room
returns-clause-room c = record {
  for_items = λ number is. omega (arith, c.number_limit.ensures.below number is, c.in_ok-reserve.ensures.item_room);
  for_lists = omega (arith, c.next_id.ensures, c.in_ok-reserve.ensures.list_room);
}
