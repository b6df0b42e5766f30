use Rattle.std.proofs.Common.{take, arith}
use Rattle.spatial_index.specs.Contents.{GridState}
use Rattle.spatial_index.specs.Moves.{IsPlan}
use Rattle.spatial_index.proofs.GridLemmas.{AreIn-opened, KeepsItems-opened, HasMoreRoom-opened, IsGrid-opened, OnOk-map}
use Rattle.spatial_index.proofs.ChangeLemmas.{KeepsItems-none}
use Rattle.spatial_index.proofs.grid.Grid.promise.Goals as goal

pub index_mut-level-requires : goal.index_mut-level-requires
index_mut-level-requires c =
    omega (arith, c.from.ensures, c.plan-plan.ensures.top_level, c.self.invariant.levels, c.self.inside.levels.ok.0)

pub promise-requires : goal.promise-requires
promise-requires c =
    let now = c.args.self.now in
    let was : GridState = record { region = record { width = c.self.inside.width; height = c.self.inside.height }; levels = c.self.inside.levels.items } in
    let plan : IsPlan now c.args.change.now.new c.from.result (take c.from-2.result c.plan-plan.result.cells) = rw (c.from.ensures, c.from-2.ensures) (record { inside = c.plan-plan.ensures.top_level; at = c.plan-plan.ensures.level; met = c.plan-plan.ensures.met; within = c.plan-plan.ensures.within }) in
    AreIn-opened was now c.self.view_is c.args.change.now.new c.from.result _ c.index_mut-level.result.now c.index_mut-level.result.now c.self.invariant plan c.index_mut-level.ensures.value

pub returns : goal.returns
returns c =
    let now = c.args.self.now in
    let was : GridState = record { region = record { width = c.self.inside.width; height = c.self.inside.height }; levels = c.self.inside.levels.items } in
    let plan : IsPlan now c.args.change.now.new c.from.result (take c.from-2.result c.plan-plan.result.cells) = rw (c.from.ensures, c.from-2.ensures) (record { inside = c.plan-plan.ensures.top_level; at = c.plan-plan.ensures.level; met = c.plan-plan.ensures.met; within = c.plan-plan.ensures.within }) in
    record {
      same = KeepsItems-opened was now c.self.view_is c.args.change.now.new c.from.result (take c.from-2.result c.plan-plan.result.cells) c.index_mut-level.result.now c.promise.new.self c.self.invariant plan c.index_mut-level.ensures.value c.promise.ensures.same_items;
      room = OnOk-map c.promise.result _ _ (HasMoreRoom-opened was now c.self.view_is c.args.change.now.new c.from.result (take c.from-2.result c.plan-plan.result.cells) c.index_mut-level.result.now c.promise.new.self c.self.invariant plan c.index_mut-level.ensures.value) c.promise.ensures.promised;
    }

pub invariant_of-self-2 : goal.invariant_of-self-2
invariant_of-self-2 c =
    let now = c.args.self.now in
    let was : GridState = record { region = record { width = c.self.inside.width; height = c.self.inside.height }; levels = c.self.inside.levels.items } in
    let plan : IsPlan now c.args.change.now.new c.from.result (take c.from-2.result c.plan-plan.result.cells) = rw (c.from.ensures, c.from-2.ensures) (record { inside = c.plan-plan.ensures.top_level; at = c.plan-plan.ensures.level; met = c.plan-plan.ensures.met; within = c.plan-plan.ensures.within }) in
    IsGrid-opened was now c.self.view_is c.args.change.now.new c.from.result _ c.index_mut-level.result.now c.promise.new.self c.self.invariant plan c.index_mut-level.ensures.value c.promise.ensures.same_items.count

pub returns-in_err-make_room-clause-same : goal.returns-in_err-make_room-clause-same
returns-in_err-make_room-clause-same c = rw (← c.self.view_is) (KeepsItems-none _)
