use Rattle.std.proofs.Common.{◌≡◌, ◌-◌}
use Rattle.spatial_index.specs.Cells.{least_level}
use Rattle.spatial_index.proofs.plan.level_of.Given as goal

abbrev pub invariant-loop-level : goal.invariant-loop-level
invariant-loop-level l = least_level l.bounds 0 9 ≡ least_level l.bounds l.level (9 - l.level)
