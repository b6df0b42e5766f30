use Rattle.std.proofs.Common.{◌<◌, length, get_or, arith, refl}
use Rattle.std.proofs.lemmas.List.{take_all}
use Rattle.spatial_index.proofs.LevelLemmas.{HasSameItems-more, HasPromised-more, HasPromised-none}
use Rattle.spatial_index.proofs.level.Level.promise.Goals as goal

pub index_mut-cell-requires : goal.index_mut-cell-requires
index_mut-cell-requires c =
    let inside : get_or c.args.numbers.now c.loop-number.number-index 0 < length c.self.inside.cells.items = rw (← c.self.view_is) at (c.requires c.loop-number.number-index 0 c.loop-number-test.true) in
    omega (arith, c.loop-number.invariant.same.count, inside, c.loop-number.cells.ok.0)

pub loop-number-init : goal.loop-number-init
loop-number-init c = record { same = record { count = refl; items = λ _. refl }; promised = HasPromised-none _ }

pub loop-number-preserved : goal.loop-number-preserved
loop-number-preserved c =
    let inside : get_or c.args.numbers.now c.loop-number.number-index 0 < length c.self.inside.cells.items = rw (← c.self.view_is) at (c.requires c.loop-number.number-index 0 c.loop-number-test.true) in
    let within : get_or c.args.numbers.now c.loop-number.number-index 0 < length c.loop-number.cells.items = omega (arith, c.loop-number.invariant.same.count, inside) in
    record {
      same = HasSameItems-more c.self.inside.cells.items c.loop-number.cells.items c.args.numbers.now c.loop-number.number-index _ c.index_mut-cell.result.now c.promise.new.self c.loop-number-test.true refl within c.index_mut-cell.ensures.value c.promise.ensures.items c.loop-number.invariant.same;
      promised = HasPromised-more c.self.inside.cells.items c.loop-number.cells.items c.args.numbers.now c.loop-number.number-index _ c.index_mut-cell.result.now c.promise.new.self c.loop-number-test.true refl within c.index_mut-cell.ensures.value c.in_ok-promise.ensures.spare c.loop-number.invariant.promised;
    }

pub returns-in_err-promise-clause-same_items : goal.returns-in_err-promise-clause-same_items
returns-in_err-promise-clause-same_items c =
    let inside : get_or c.args.numbers.now c.loop-number.number-index 0 < length c.self.inside.cells.items = rw (← c.self.view_is) at (c.requires c.loop-number.number-index 0 c.loop-number-test.true) in
    let within : get_or c.args.numbers.now c.loop-number.number-index 0 < length c.loop-number.cells.items = omega (arith, c.loop-number.invariant.same.count, inside) in
    rw (← c.self.view_is) (HasSameItems-more c.self.inside.cells.items c.loop-number.cells.items c.args.numbers.now c.loop-number.number-index _ c.index_mut-cell.result.now c.promise.new.self c.loop-number-test.true refl within c.index_mut-cell.ensures.value c.promise.ensures.items c.loop-number.invariant.same)

pub returns : goal.returns
returns c =
    let whole = take_all c.loop-number.number-index c.args.numbers.now c.loop-number-test.false in
    rw (← c.self.view_is) (record { same_items = c.loop-number.invariant.same; promised = rw whole at c.loop-number.invariant.promised })
