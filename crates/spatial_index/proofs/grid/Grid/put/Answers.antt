use Rattle.std.proofs.Common.{take, arith}
use Rattle.spatial_index.specs.Contents.{GridState}
use Rattle.spatial_index.specs.Moves.{IsPlan}
use Rattle.spatial_index.proofs.GridLemmas.{AreIn-opened, HaveRoom-opened, PutsIn-opened, IsGrid-opened}
use Rattle.spatial_index.proofs.grid.Grid.put.Goals as goal

pub index_mut-level-requires : goal.index_mut-level-requires
index_mut-level-requires c =
    omega (arith, c.from.ensures, c.requires.plan.inside, c.self.invariant.levels, c.self.inside.levels.ok.0)

pub put-requires : goal.put-requires
put-requires c =
    let now = c.args.self.now in
    let was : GridState = record { region = record { width = c.self.inside.width; height = c.self.inside.height }; levels = c.self.inside.levels.items } in
    let plan : IsPlan now c.args.change.now.new c.from.result (take c.from-2.result c.args.plan.now.cells) = rw (c.from.ensures, c.from-2.ensures) c.requires.plan in
    record {
      cells = AreIn-opened was now c.self.view_is c.args.change.now.new c.from.result _ c.index_mut-level.result.now c.index_mut-level.result.now c.self.invariant plan c.index_mut-level.ensures.value;
      room = HaveRoom-opened was now c.self.view_is c.args.change.now.new c.from.result _ c.index_mut-level.result.now c.index_mut-level.result.now c.self.invariant plan c.index_mut-level.ensures.value c.requires.room;
    }

pub returns : goal.returns
returns c =
    let now = c.args.self.now in
    let was : GridState = record { region = record { width = c.self.inside.width; height = c.self.inside.height }; levels = c.self.inside.levels.items } in
    let plan : IsPlan now c.args.change.now.new c.from.result (take c.from-2.result c.args.plan.now.cells) = rw (c.from.ensures, c.from-2.ensures) c.requires.plan in
    PutsIn-opened was now c.self.view_is c.args.change.now.new c.from.result _ c.index_mut-level.result.now c.put.new.self c.self.invariant plan c.index_mut-level.ensures.value c.args.change.now.item c.put.ensures

pub invariant_of-self : goal.invariant_of-self
invariant_of-self c =
    let now = c.args.self.now in
    let was : GridState = record { region = record { width = c.self.inside.width; height = c.self.inside.height }; levels = c.self.inside.levels.items } in
    let plan : IsPlan now c.args.change.now.new c.from.result (take c.from-2.result c.args.plan.now.cells) = rw (c.from.ensures, c.from-2.ensures) c.requires.plan in
    IsGrid-opened was now c.self.view_is c.args.change.now.new c.from.result _ c.index_mut-level.result.now c.put.new.self c.self.invariant plan c.index_mut-level.ensures.value c.put.ensures.count
