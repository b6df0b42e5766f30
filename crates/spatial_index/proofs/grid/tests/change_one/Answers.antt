use Rattle.std.proofs.Common.{arith}
use Rattle.spatial_index.proofs.grid.tests.change_one.Goals as goal

pub returns-clause-moved : goal.returns-clause-moved
returns-clause-moved g c = c.apply.ensures.moved 0 (record { item = c.args.item; old = c.args.old; new = c.args.new }) (omega arith)
