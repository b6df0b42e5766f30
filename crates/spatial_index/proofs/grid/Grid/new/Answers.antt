use Rattle.std.proofs.Common.{arith, to_z, of_z, w64}
use Rattle.spatial_index.specs.Contents.{GridState}
use Rattle.spatial_index.proofs.GridLemmas.{StandsNowhere-new}
use Rattle.spatial_index.proofs.grid.Grid.new.Goals as goal

pub returns-clause-empty : goal.returns-clause-empty
returns-clause-empty c =
    let grid : GridState = record { region = record { width = to_z w64 (of_z w64 c.args.w); height = to_z w64 (of_z w64 c.args.h) }; levels = c.loop-level.levels.items } in
    StandsNowhere-new grid (λ level inside. c.loop-level.invariant.cells level (omega (arith, c.loop-level-test.false)))
