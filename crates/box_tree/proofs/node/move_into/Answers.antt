-- Without spare room the number of ids is between two powers of two.
use Rattle.std.proofs.Common.{subst}
use Rattle.std.specs.Prelude.{vec_len}
use Rattle.box_tree.specs.Room.{IsSpareFor}
use Rattle.box_tree.proofs.RoomLemmas.{room_between}
use Rattle.box_tree.proofs.node.move_into.Goals as goal

pub returns-in_default-clause-room : goal.returns-in_default-clause-room
returns-in_default-clause-room c = room_between _ _ c.requires.room (subst (IsSpareFor (vec_len c.args.ids.now)) c.in_default.is c.requires.spare)
