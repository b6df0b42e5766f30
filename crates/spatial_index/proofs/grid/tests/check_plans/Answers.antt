use Rattle.std.proofs.Common.{inr, arith}
use Rattle.std.proofs.lemmas.Int.{ints}
use Rattle.spatial_index.proofs.grid.tests.check_plans.Goals as goal

pub plan-plan-requires : goal.plan-plan-requires
plan-plan-requires g c =
    rw (← c.grid.view_is) (inr (record { from_left = omega (arith, ints); from_top = omega (arith, ints); to_right = omega (arith, ints); to_bottom = omega (arith, ints) }))
