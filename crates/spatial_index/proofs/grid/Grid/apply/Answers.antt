use Rattle.std.proofs.Common.{arith}
use Rattle.std.proofs.lemmas.List.{get_or_default}
use Rattle.spatial_index.proofs.ChangeLemmas.{AreApplied-none, AreApplied-more, HasRoomFor-next}
use Rattle.spatial_index.proofs.grid.Grid.apply.Goals as goal

pub carry_out-requires : goal.carry_out-requires
carry_out-requires g c =
    let i = c.loop-change.change-index in
    let applied = c.loop-change.invariant.applied in
    record {
      old_bounds = rw applied.region (c.requires.old_bounds i _ c.loop-change-test.true);
      new_bounds = rw applied.region (c.requires.new_bounds i _ c.loop-change-test.true);
      there = applied.to_do i _ (omega arith) c.loop-change-test.true;
      room = HasRoomFor-next c.loop-change.self c.args.changes.now i _ c.loop-change-test.true (get_or_default c.args.changes.now i _ _ c.loop-change-test.true) applied.room;
    }

pub loop-change-init : goal.loop-change-init
loop-change-init g c =
    record { applied = AreApplied-none c.args.self.now c.args.changes.now c.requires.reserved c.requires.there; steps = omega arith }

pub loop-change-preserved : goal.loop-change-preserved
loop-change-preserved g c =
    let i = c.loop-change.change-index in
    record {
      applied = AreApplied-more c.args.self.now c.loop-change.self c.carry_out.new.self c.args.changes.now i _ c.loop-change-test.true (get_or_default c.args.changes.now i _ _ c.loop-change-test.true) c.requires.distinct c.carry_out.ensures c.loop-change.invariant.applied;
      steps = omega (arith, c.tick.ensures, c.loop-change.invariant.steps);
    }

pub returns : goal.returns
returns g c =
    let applied = c.loop-change.invariant.applied in
    record {
      region = applied.region;
      moved = λ k d inside. applied.done k d (omega (arith, c.loop-change-test.false));
      others = applied.others;
      cost = omega (arith, c.loop-change.invariant.steps, c.loop-change-test.false, c.loop-change.auto.change-index-end);
    }
