-- There are as many nodes as slots that hold one.
use Rattle.std.proofs.Common.{◌<◌, length, arith}
use Rattle.std.proofs.lemmas.Result.{on_ok_weaker}
use Rattle.slab.specs.Slab.{values}
use Rattle.box_tree.proofs.NodesLemmas.{length-held}
use Rattle.box_tree.proofs.nodes.Nodes.reserve.Goals as goal

pub returns-clause-fits : goal.returns-clause-fits
returns-clause-fits c =
    let fits : length (values c.reserve.new.self) < c.reserve.new.self.capacity = omega (arith, length-held c.reserve.new.self.slots, c.in_ok-reserve.ensures.room) in
    on_ok_weaker c.give_place.result (λ _. fits) c.give_place.ensures.placed
