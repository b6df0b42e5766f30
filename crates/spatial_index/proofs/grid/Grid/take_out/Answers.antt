use Rattle.std.proofs.Common.{take, arith}
use Rattle.spatial_index.specs.Contents.{GridState}
use Rattle.spatial_index.specs.Moves.{IsPlan}
use Rattle.spatial_index.proofs.GridLemmas.{AreIn-opened, Stand-opened, TakesOut-opened, IsGrid-opened}
use Rattle.spatial_index.proofs.grid.Grid.take_out.Goals as goal

pub index_mut-level-requires : goal.index_mut-level-requires
index_mut-level-requires c =
    omega (arith, c.from.ensures, c.requires.plan.inside, c.self.invariant.levels, c.self.inside.levels.ok.0)

pub take_out-requires : goal.take_out-requires
take_out-requires c =
    let now = c.args.self.now in
    let was : GridState = record { region = record { width = c.self.inside.width; height = c.self.inside.height }; levels = c.self.inside.levels.items } in
    let plan : IsPlan now c.args.change.now.old c.from.result (take c.from-2.result c.args.plan.now.cells) = rw (c.from.ensures, c.from-2.ensures) c.requires.plan in
    record {
      cells = AreIn-opened was now c.self.view_is c.args.change.now.old c.from.result _ c.index_mut-level.result.now c.index_mut-level.result.now c.self.invariant plan c.index_mut-level.ensures.value;
      there = Stand-opened was now c.self.view_is c.args.change.now.old c.from.result _ c.index_mut-level.result.now c.index_mut-level.result.now c.self.invariant plan c.index_mut-level.ensures.value c.args.change.now.item c.requires.there;
    }

pub returns : goal.returns
returns c =
    let now = c.args.self.now in
    let was : GridState = record { region = record { width = c.self.inside.width; height = c.self.inside.height }; levels = c.self.inside.levels.items } in
    let plan : IsPlan now c.args.change.now.old c.from.result (take c.from-2.result c.args.plan.now.cells) = rw (c.from.ensures, c.from-2.ensures) c.requires.plan in
    TakesOut-opened was now c.self.view_is c.args.change.now.old c.from.result _ c.index_mut-level.result.now c.take_out.new.self c.self.invariant plan c.index_mut-level.ensures.value c.args.change.now.item c.take_out.ensures

pub invariant_of-self : goal.invariant_of-self
invariant_of-self c =
    let now = c.args.self.now in
    let was : GridState = record { region = record { width = c.self.inside.width; height = c.self.inside.height }; levels = c.self.inside.levels.items } in
    let plan : IsPlan now c.args.change.now.old c.from.result (take c.from-2.result c.args.plan.now.cells) = rw (c.from.ensures, c.from-2.ensures) c.requires.plan in
    IsGrid-opened was now c.self.view_is c.args.change.now.old c.from.result _ c.index_mut-level.result.now c.take_out.new.self c.self.invariant plan c.index_mut-level.ensures.value c.take_out.ensures.count
