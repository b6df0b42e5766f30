use Rattle.std.proofs.Common.{take}
use Rattle.spatial_index.specs.Moves.{IsPlan}
use Rattle.spatial_index.proofs.ChangeLemmas.{Moves-both, HasRoomFor-after}
use Rattle.spatial_index.proofs.GridLemmas.{IsPlan-kept, Moves-none, same_plan}
use Rattle.spatial_index.proofs.grid.Grid.carry_out.Goals as goal

pub put-requires-clause-plan : goal.put-requires-clause-plan
put-requires-clause-plan c =
    IsPlan-kept c.args.self.now c.take_out.new.self _ _ _ c.take_out.ensures.region (record { inside = c.plan-new.ensures.top_level; at = c.plan-new.ensures.level; met = c.plan-new.ensures.met; within = c.plan-new.ensures.within })

pub put-requires-clause-room : goal.put-requires-clause-room
put-requires-clause-room c =
    HasRoomFor-after c.args.self.now c.take_out.new.self c.args.change.now.item c.args.change.now.old c.args.change.now.new c.take_out.ensures c.requires.room

pub returns-then-ne : goal.returns-then-ne
returns-then-ne c =
    Moves-both c.args.self.now c.take_out.new.self c.put.new.self c.args.change.now c.requires.there c.take_out.ensures c.put.ensures

pub returns-else-ne : goal.returns-else-ne
returns-else-ne c =
    let same = same_plan c.plan-old.result.level c.plan-new.result.level c.plan-old.result.count c.plan-new.result.count c.plan-old.result.cells c.plan-new.result.cells c.ne.result c.ne.ensures c.if-ne.false in
    let old : IsPlan c.args.self.now c.args.change.now.old c.plan-old.result.level (take c.plan-old.result.count c.plan-old.result.cells) = record { inside = c.plan-old.ensures.top_level; at = c.plan-old.ensures.level; met = c.plan-old.ensures.met; within = c.plan-old.ensures.within } in
    let new : IsPlan c.args.self.now c.args.change.now.new c.plan-new.result.level (take c.plan-new.result.count c.plan-new.result.cells) = record { inside = c.plan-new.ensures.top_level; at = c.plan-new.ensures.level; met = c.plan-new.ensures.met; within = c.plan-new.ensures.within } in
    Moves-none c.args.self.now c.args.change.now c.plan-old.result.level (take c.plan-old.result.count c.plan-old.result.cells) old (rw (same.0, same.1) new) c.requires.there
