use Rattle.std.proofs.Common.{◌≡◌, arith, refl, inl, ◌∙◌, to_z, of_z, w64}
use Rattle.std.proofs.lemmas.List.{get_or_default}
use Rattle.std.proofs.lemmas.Int.{ints, to_z-of_z}
use Rattle.spatial_index.proofs.ChangeLemmas.{AreBuilt-none, AreBuilt-more, next_absent, StandsBy-nowhere, StandsNowhere-same, HasRoomFor-next}
use Rattle.spatial_index.proofs.grid.Grid.rebuilt.Goals as goal

pub loop-item-init : goal.loop-item-init
loop-item-init c =
    AreBuilt-none c.reserve.new.self c.args.items.now c.in_ok-reserve.ensures.reserved
    (λ item. StandsNowhere-same c.in_ok-grid.grid c.reserve.new.self item c.reserve.ensures.same (c.in_ok-grid.ensures.empty item))

pub carry_out-requires : goal.carry_out-requires
carry_out-requires c =
    let i = c.loop-item.item-index in
    let built = c.loop-item.invariant in
    let width : to_z w64 (of_z w64 c.args.w) ≡ c.args.w = to_z-of_z w64 c.args.w c.ranges.w in
    let height : to_z w64 (of_z w64 c.args.h) ≡ c.args.h = to_z-of_z w64 c.args.h c.ranges.h in
    record {
      old_bounds = inl (inl (omega (arith, ints)));
      new_bounds = rw (built.region, c.reserve.ensures.same.region, c.in_ok-grid.ensures.region, width, height) (c.requires.new_bounds i _ c.loop-item-test.true);
      there = StandsBy-nowhere c.loop-item.grid _ _ refl (next_absent c.reserve.new.self c.loop-item.grid c.args.items.now i _ c.loop-item-test.true (get_or_default c.args.items.now i _ _ c.loop-item-test.true) c.requires.distinct built);
      room = HasRoomFor-next c.loop-item.grid c.args.items.now i _ c.loop-item-test.true (get_or_default c.args.items.now i _ _ c.loop-item-test.true) built.room;
    }

pub loop-item-preserved : goal.loop-item-preserved
loop-item-preserved c =
    let i = c.loop-item.item-index in
    AreBuilt-more c.reserve.new.self c.loop-item.grid c.carry_out.new.self c.args.items.now i _ _ c.loop-item-test.true (get_or_default c.args.items.now i _ _ c.loop-item-test.true) c.requires.distinct c.carry_out.ensures c.loop-item.invariant

pub returns : goal.returns
returns c =
    let built = c.loop-item.invariant in
    let width : to_z w64 (of_z w64 c.args.w) ≡ c.args.w = to_z-of_z w64 c.args.w c.ranges.w in
    let height : to_z w64 (of_z w64 c.args.h) ≡ c.args.h = to_z-of_z w64 c.args.h c.ranges.h in
    record {
      region = built.region ∙ (c.reserve.ensures.same.region ∙ rw (width, height) at c.in_ok-grid.ensures.region);
      items = λ k d inside. built.done k d (omega (arith, c.loop-item-test.false));
      no_other = λ item others. built.absent item (λ k d below. others k d (omega (arith, c.loop-item.auto.item-index-end)));
    }
