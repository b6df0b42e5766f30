-- The next power of two is the least that is not below.
use Rattle.std.proofs.Common.{arith}
use Rattle.std.proofs.lemmas.Bool.Decides.{nat_tests}
use Rattle.box_tree.proofs.RoomLemmas.{between_powers}
use Rattle.box_tree.proofs.node.is_between_powers.Goals as goal

pub returns-then-len-gt0 : goal.returns-then-len-gt0
returns-then-len-gt0 c = λ test. let next = c.next_power_of_two.ensures in between_powers c.args.len c.next_power_of_two.result next.power.0 next.power.1 c.if-len-gt0.true (grind (arith, nat_tests, test)) next.upper_bound
