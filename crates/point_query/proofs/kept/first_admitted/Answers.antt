-- One item more, the first that is admitted or none.
use Rattle.std.proofs.Common.{◌≡◌, arith, sym}
use Rattle.std.proofs.lemmas.Int.{ints}
use mir.Syntax.{w64}
use mir.Val.{to_z, of_z}
use Rattle.point_query.proofs.BoundLemmas.{steps-more, steps-rest}
use Rattle.point_query.proofs.KeptLemmas.{elements-first, elements-none}
use Rattle.point_query.proofs.kept.first_admitted.Goals as goal

pub loop-number-preserved : goal.loop-number-preserved
loop-number-preserved g c =
    let page = c.args.page.now in
    let l = c.loop-number in
    let more = steps-more page.contents page.items c.args.numbers.now l.number-index c.item-item.result (omega arith) c.item-item.ensures.item in
    record {
      none = elements-none page.contents (to_z w64 (of_z w64 c.args.x)) (to_z w64 (of_z w64 c.args.y)) page.items c.args.numbers.now l.number-index c.item-item.result (omega arith) c.item-item.ensures.item c.admitted_element-element.result l.invariant.none c.admitted_element-element.ensures.element (sym c.if-is_some.ensures);
      taken = omega (arith, more, l.invariant.taken, c.item-item.ensures.step, c.admitted_element-element.ensures.cost);
      counts = omega (arith, l.invariant.counts, c.item-item.ensures.step, c.admitted_element-element.ensures.counts);
    }

pub returns-then-is_some-clause-first : goal.returns-then-is_some-clause-first
returns-then-is_some-clause-first g c =
    let page = c.args.page.now in
    let l = c.loop-number in
    let x_is : to_z w64 (of_z w64 c.args.x) ≡ c.args.x = omega (arith, ints) in
    let y_is : to_z w64 (of_z w64 c.args.y) ≡ c.args.y = omega (arith, ints) in
    elements-first page.contents c.args.x c.args.y page.items c.args.numbers.now l.number-index c.item-item.result (omega arith) c.item-item.ensures.item c.admitted_element-element.result (rw (x_is, y_is) at l.invariant.none) (rw (x_is, y_is) at c.admitted_element-element.ensures.element) (sym c.if-is_some.ensures)

pub returns-then-is_some-clause-cost : goal.returns-then-is_some-clause-cost
returns-then-is_some-clause-cost g c =
    let page = c.args.page.now in
    let l = c.loop-number in
    let more = steps-more page.contents page.items c.args.numbers.now l.number-index c.item-item.result (omega arith) c.item-item.ensures.item in
    let rest = steps-rest page.contents page.items c.args.numbers.now l.number-index c.item-item.result (omega arith) c.item-item.ensures.item in
    omega (arith, more, rest, l.invariant.taken, c.item-item.ensures.step, c.admitted_element-element.ensures.cost)
