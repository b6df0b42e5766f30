use Rattle.std.proofs.Common.{◌<◌, length, get_or, arith, refl}
use Rattle.std.proofs.lemmas.List.{take_all}
use Rattle.spatial_index.proofs.LevelLemmas.{HasSameItems-more, HasForgotten-more, HasForgotten-none}
use Rattle.spatial_index.proofs.level.Level.forget.Goals as goal

pub index_mut-cell-requires : goal.index_mut-cell-requires
index_mut-cell-requires c =
    let inside : get_or c.args.numbers.now c.loop-number.number-index 0 < length c.self.inside.cells.items = rw (← c.self.view_is) at (c.requires c.loop-number.number-index 0 c.loop-number-test.true) in
    omega (arith, c.loop-number.invariant.same.count, inside, c.loop-number.cells.ok.0)

pub loop-number-init : goal.loop-number-init
loop-number-init c = record { same = record { count = refl; items = λ _. refl }; forgotten = HasForgotten-none _ }

pub loop-number-preserved : goal.loop-number-preserved
loop-number-preserved c =
    let inside : get_or c.args.numbers.now c.loop-number.number-index 0 < length c.self.inside.cells.items = rw (← c.self.view_is) at (c.requires c.loop-number.number-index 0 c.loop-number-test.true) in
    let within : get_or c.args.numbers.now c.loop-number.number-index 0 < length c.loop-number.cells.items = omega (arith, c.loop-number.invariant.same.count, inside) in
    record {
      same = HasSameItems-more c.self.inside.cells.items c.loop-number.cells.items c.args.numbers.now c.loop-number.number-index _ c.index_mut-cell.result.now c.forget.new.self c.loop-number-test.true refl within c.index_mut-cell.ensures.value c.forget.ensures.items c.loop-number.invariant.same;
      forgotten = HasForgotten-more c.self.inside.cells.items c.loop-number.cells.items c.args.numbers.now c.loop-number.number-index _ c.index_mut-cell.result.now c.forget.new.self c.loop-number-test.true refl within c.index_mut-cell.ensures.value c.forget.ensures.spare c.loop-number.invariant.forgotten;
    }

pub returns : goal.returns
returns c =
    let whole = take_all c.loop-number.number-index c.args.numbers.now c.loop-number-test.false in
    rw (← c.self.view_is) (record { same_items = c.loop-number.invariant.same; forgotten = rw whole at c.loop-number.invariant.forgotten })
