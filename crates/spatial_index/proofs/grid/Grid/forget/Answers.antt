use Rattle.std.proofs.Common.{take, arith}
use Rattle.spatial_index.specs.Contents.{GridState}
use Rattle.spatial_index.specs.Moves.{IsPlan}
use Rattle.spatial_index.proofs.GridLemmas.{AreIn-opened, KeepsItems-opened, HasNoRoomFor-opened, IsGrid-opened}
use Rattle.spatial_index.proofs.grid.Grid.forget.Goals as goal

pub index_mut-level-requires : goal.index_mut-level-requires
index_mut-level-requires c =
    omega (arith, c.from.ensures, c.plan-plan.ensures.top_level, c.self.invariant.levels, c.self.inside.levels.ok.0)

pub forget-requires : goal.forget-requires
forget-requires c =
    let now = c.args.self.now in
    let was : GridState = record { region = record { width = c.self.inside.width; height = c.self.inside.height }; levels = c.self.inside.levels.items } in
    let plan : IsPlan now c.args.bounds.now c.from.result (take c.from-2.result c.plan-plan.result.cells) = rw (c.from.ensures, c.from-2.ensures) (record { inside = c.plan-plan.ensures.top_level; at = c.plan-plan.ensures.level; met = c.plan-plan.ensures.met; within = c.plan-plan.ensures.within }) in
    AreIn-opened was now c.self.view_is c.args.bounds.now c.from.result _ c.index_mut-level.result.now c.index_mut-level.result.now c.self.invariant plan c.index_mut-level.ensures.value

pub returns : goal.returns
returns c =
    let now = c.args.self.now in
    let was : GridState = record { region = record { width = c.self.inside.width; height = c.self.inside.height }; levels = c.self.inside.levels.items } in
    let plan : IsPlan now c.args.bounds.now c.from.result (take c.from-2.result c.plan-plan.result.cells) = rw (c.from.ensures, c.from-2.ensures) (record { inside = c.plan-plan.ensures.top_level; at = c.plan-plan.ensures.level; met = c.plan-plan.ensures.met; within = c.plan-plan.ensures.within }) in
    record {
      same = KeepsItems-opened was now c.self.view_is c.args.bounds.now c.from.result (take c.from-2.result c.plan-plan.result.cells) c.index_mut-level.result.now c.forget.new.self c.self.invariant plan c.index_mut-level.ensures.value c.forget.ensures.same_items;
      forgotten = HasNoRoomFor-opened was now c.self.view_is c.args.bounds.now c.from.result (take c.from-2.result c.plan-plan.result.cells) c.index_mut-level.result.now c.forget.new.self c.self.invariant plan c.index_mut-level.ensures.value c.forget.ensures.forgotten;
    }

pub invariant_of-self : goal.invariant_of-self
invariant_of-self c =
    let now = c.args.self.now in
    let was : GridState = record { region = record { width = c.self.inside.width; height = c.self.inside.height }; levels = c.self.inside.levels.items } in
    let plan : IsPlan now c.args.bounds.now c.from.result (take c.from-2.result c.plan-plan.result.cells) = rw (c.from.ensures, c.from-2.ensures) (record { inside = c.plan-plan.ensures.top_level; at = c.plan-plan.ensures.level; met = c.plan-plan.ensures.met; within = c.plan-plan.ensures.within }) in
    IsGrid-opened was now c.self.view_is c.args.bounds.now c.from.result _ c.index_mut-level.result.now c.forget.new.self c.self.invariant plan c.index_mut-level.ensures.value c.forget.ensures.same_items.count
