use Rattle.std.proofs.Common.{arith}
use Rattle.std.proofs.lemmas.Int.{ints}
use Rattle.spatial_index.proofs.grid.tests.check_visits.Goals as goal

pub visit-items-requires-clause-to_right : goal.visit-items-requires-clause-to_right
visit-items-requires-clause-to_right g c = rw (← c.grid.view_is) (omega (arith, ints))

pub visit-items-requires-clause-to_bottom : goal.visit-items-requires-clause-to_bottom
visit-items-requires-clause-to_bottom g c = rw (← c.grid.view_is) (omega (arith, ints))
