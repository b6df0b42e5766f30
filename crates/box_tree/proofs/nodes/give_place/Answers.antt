-- The places that come lead nowhere, as before.
use Rattle.std.proofs.Common.{arith}
use Rattle.box_tree.proofs.NodesLemmas.{slot_of-resized}
use Rattle.box_tree.proofs.nodes.give_place.Goals as goal

pub returns-in_ok-resize-clause-slots : goal.returns-in_ok-resize-clause-slots
returns-in_ok-resize-clause-slots c = λ x. rw c.in_ok-resize.ensures.items (slot_of-resized c.args.places.now.items _ _ x (omega arith))
