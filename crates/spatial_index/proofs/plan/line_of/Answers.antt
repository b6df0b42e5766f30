use Rattle.std.proofs.Common.{◌≡◌, ◌≤◌, ◌^◌, unsigned_abs, arith, to_z, of_z, w64}
use Rattle.std.proofs.lemmas.Int.{ints, to_z-of_z}
use Rattle.spatial_index.proofs.PlanLemmas.{line_of-small}
use Rattle.spatial_index.proofs.plan.line_of.Goals as goal

pub returns-clause-small : goal.returns-clause-small
returns-clause-small c =
    let same : to_z w64 (of_z w64 c.args.x) ≡ c.args.x = to_z-of_z w64 c.args.x c.ranges.x in
    let size : unsigned_abs c.args.x ≤ 2 ^ 20 = omega (arith, ints) in
    rw (same, c.side.ensures) (line_of-small c.args.level c.args.x size)
