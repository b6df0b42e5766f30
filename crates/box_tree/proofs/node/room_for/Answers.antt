-- The next power of two is room enough.
use Rattle.box_tree.proofs.RoomLemmas.{room_power}
use Rattle.box_tree.proofs.node.room_for.Goals as goal

pub returns-clause-room : goal.returns-clause-room
returns-clause-room c = λ room fits. let next = c.next_power_of_two.ensures in room_power c.args.len room c.next_power_of_two.result next.power.0 next.power.1 next.lower_bound fits
