use Rattle.std.proofs.Common.{◌∙◌}
use Rattle.std.proofs.lemmas.List.{get_or_default}
use Rattle.spatial_index.specs.Contents.{HasRoomForNoMore}
use Rattle.spatial_index.proofs.ChangeLemmas.{AreForgotten-none, AreForgotten-more, AreReserved-none, AreReserved-more, HasRoomForNoMore-all, IsReserved-exactly, KeepsItems-then}
use Rattle.spatial_index.proofs.grid.Grid.reserve.Goals as goal

pub forget-requires : goal.forget-requires
forget-requires c =
    rw c.loop-change.invariant.same.region (c.requires c.loop-change.change-index _ c.loop-change-test.true)

pub loop-change-init : goal.loop-change-init
loop-change-init c = AreForgotten-none c.args.self.now c.args.changes.now

pub loop-change-preserved : goal.loop-change-preserved
loop-change-preserved c =
    let i = c.loop-change.change-index in
    AreForgotten-more c.args.self.now c.loop-change.self c.forget.new.self c.args.changes.now i _ c.loop-change-test.true (get_or_default c.args.changes.now i _ _ c.loop-change-test.true) c.forget.ensures.same c.forget.ensures.forgotten c.loop-change.invariant

pub loop-change-2-init : goal.loop-change-2-init
loop-change-2-init c = AreReserved-none c.loop-change.self c.args.changes.now

pub promise-requires : goal.promise-requires
promise-requires c =
    rw (c.loop-change-2.invariant.same.region ∙ c.loop-change.invariant.same.region) (c.requires c.loop-change-2.change-index _ c.loop-change-2-test.true)

pub loop-change-2-preserved : goal.loop-change-2-preserved
loop-change-2-preserved c =
    let i = c.loop-change-2.change-index in
    AreReserved-more c.loop-change.self c.loop-change-2.self c.promise.new.self c.args.changes.now i _ c.loop-change-2-test.true (get_or_default c.args.changes.now i _ _ c.loop-change-2-test.true) c.promise.ensures.same c.in_ok-promise.ensures.room c.loop-change-2.invariant

pub returns-in_err-promise-clause-same : goal.returns-in_err-promise-clause-same
returns-in_err-promise-clause-same c =
    KeepsItems-then c.args.self.now c.loop-change.self c.promise.new.self c.loop-change.invariant.same
    (KeepsItems-then c.loop-change.self c.loop-change-2.self c.promise.new.self c.loop-change-2.invariant.same c.promise.ensures.same)

pub returns : goal.returns
returns c =
    let same = KeepsItems-then c.args.self.now c.loop-change.self c.loop-change-2.self c.loop-change.invariant.same c.loop-change-2.invariant.same in
    let room : HasRoomForNoMore c.args.self.now c.loop-change-2.self c.args.changes.now = HasRoomForNoMore-all c.args.self.now c.loop-change.self c.loop-change-2.self c.args.changes.now _ _ c.loop-change-test.false c.loop-change-2-test.false c.loop-change.invariant c.loop-change-2.invariant in
    record { same = same; reserved = IsReserved-exactly c.args.self.now c.loop-change-2.self c.args.changes.now same.region room; no_more = room }
