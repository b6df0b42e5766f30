use Rattle.std.proofs.Common.{◌<◌, length, get_or, arith, refl}
use Rattle.std.proofs.lemmas.List.{take_all}
use Rattle.spatial_index.proofs.LevelLemmas.{HasTaken-none, HasTaken-more, still_stands}
use Rattle.spatial_index.proofs.level.Level.take_out.Goals as goal

pub index_mut-cell-requires : goal.index_mut-cell-requires
index_mut-cell-requires c =
    let inside : get_or c.args.numbers.now c.loop-number.number-index 0 < length c.self.inside.cells.items = rw (← c.self.view_is) at (c.requires.cells c.loop-number.number-index 0 c.loop-number-test.true) in
    omega (arith, c.loop-number.invariant.count, inside, c.loop-number.cells.ok.0)

pub take_out-requires : goal.take_out-requires
take_out-requires c =
    let inside : get_or c.args.numbers.now c.loop-number.number-index 0 < length c.self.inside.cells.items = rw (← c.self.view_is) at (c.requires.cells c.loop-number.number-index 0 c.loop-number-test.true) in
    still_stands c.self.inside.cells.items c.loop-number.cells.items c.args.numbers.now c.loop-number.number-index _ c.index_mut-cell.result.now c.index_mut-cell.result.now c.loop-number-test.true refl (omega (arith, c.loop-number.invariant.count, inside)) c.index_mut-cell.ensures.value c.args.item (rw c.self.view_is c.requires.there) c.loop-number.invariant

pub loop-number-init : goal.loop-number-init
loop-number-init c = HasTaken-none c.self.inside.cells.items c.args.item

pub loop-number-preserved : goal.loop-number-preserved
loop-number-preserved c =
    let inside : get_or c.args.numbers.now c.loop-number.number-index 0 < length c.self.inside.cells.items = rw (← c.self.view_is) at (c.requires.cells c.loop-number.number-index 0 c.loop-number-test.true) in
    HasTaken-more c.self.inside.cells.items c.loop-number.cells.items c.args.numbers.now c.loop-number.number-index _ c.index_mut-cell.result.now c.take_out.new.self c.loop-number-test.true refl (omega (arith, c.loop-number.invariant.count, inside)) c.index_mut-cell.ensures.value c.args.item c.take_out.ensures.items c.take_out.ensures.spare c.loop-number.invariant

pub returns : goal.returns
returns c =
    let whole = take_all c.loop-number.number-index c.args.numbers.now c.loop-number-test.false in
    rw (← c.self.view_is) (rw whole at c.loop-number.invariant)
