use Rattle.std.proofs.Common.{◌≡◌, ◌<◌, ℤ, take, arith, ap, to_z, of_z, w64}
use Rattle.std.proofs.lemmas.Int.{ints}
use Rattle.spatial_index.specs.Cells.{IsSide, line_count, level_of, cells_met}
use Rattle.spatial_index.specs.Contents.{GridState}
use Rattle.spatial_index.proofs.PlanLemmas.{times-cells_met, cells_met-within, highest_if_inside, same_bits}
use Rattle.spatial_index.proofs.grid.Grid.plan.Goals as goal

same_width : (width : ℤ) → IsSide width → to_z w64 (of_z w64 width) ≡ width
same_width width side = same_bits width (omega (arith, ints, side.least, side.greatest))

pub cells_met-requires-clause-inside : goal.cells_met-requires-clause-inside
cells_met-requires-clause-inside c =
    let same = same_width c.self.inside.width c.self.invariant.width in
    let width : c.self.inside.width ≡ c.args.self.now.region.width = ap (λ (grid : GridState). grid.region.width) c.self.view_is in
    let height : c.self.inside.height ≡ c.args.self.now.region.height = ap (λ (grid : GridState). grid.region.height) c.self.view_is in
    let side : IsSide c.args.self.now.region.height = rw height at c.self.invariant.height in
    rw (same, width) (highest_if_inside c.args.self.now.region c.args.bounds.now side c.requires)

pub returns-clause-cells : goal.returns-clause-cells
returns-clause-cells c =
    let same = same_width c.self.inside.width c.self.invariant.width in
    let width : c.self.inside.width ≡ c.args.self.now.region.width = ap (λ (grid : GridState). grid.region.width) c.self.view_is in
    rw (same, width) at c.cells_met.ensures.numbers

pub returns-clause-met : goal.returns-clause-met
returns-clause-met c column row h =
    let same = same_width c.self.inside.width c.self.invariant.width in
    let width : c.self.inside.width ≡ c.args.self.now.region.width = ap (λ (grid : GridState). grid.region.width) c.self.view_is in
    let height : c.self.inside.height ≡ c.args.self.now.region.height = ap (λ (grid : GridState). grid.region.height) c.self.view_is in
    let side : IsSide c.args.self.now.region.width = rw width at c.self.invariant.width in
    let side' : IsSide c.args.self.now.region.height = rw height at c.self.invariant.height in
    let numbers : take c.cells_met.result.count c.cells_met.result.cells ≡ cells_met c.args.self.now.region.width c.args.bounds.now = rw (same, width) at c.cells_met.ensures.numbers in
    let within : column < line_count (level_of c.args.bounds.now) c.args.self.now.region.width = rw c.cells_met.ensures.level at h in
    rw (c.cells_met.ensures.level, numbers)
    (times-cells_met c.args.self.now.region.width c.args.bounds.now column row side (highest_if_inside c.args.self.now.region c.args.bounds.now side' c.requires) within)

pub returns-clause-within : goal.returns-clause-within
returns-clause-within c =
    let same = same_width c.self.inside.width c.self.invariant.width in
    let width : c.self.inside.width ≡ c.args.self.now.region.width = ap (λ (grid : GridState). grid.region.width) c.self.view_is in
    let height : c.self.inside.height ≡ c.args.self.now.region.height = ap (λ (grid : GridState). grid.region.height) c.self.view_is in
    let side : IsSide c.args.self.now.region.width = rw width at c.self.invariant.width in
    let side' : IsSide c.args.self.now.region.height = rw height at c.self.invariant.height in
    let numbers : take c.cells_met.result.count c.cells_met.result.cells ≡ cells_met c.args.self.now.region.width c.args.bounds.now = rw (same, width) at c.cells_met.ensures.numbers in
    rw (c.cells_met.ensures.level, numbers)
    (cells_met-within c.args.self.now.region c.args.bounds.now side side' c.requires)
