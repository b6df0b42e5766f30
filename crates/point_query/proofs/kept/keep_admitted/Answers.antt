-- The element of one item more is written where it is new.
use Rattle.std.proofs.Common.{◌≡◌, ◌<◌, ◌++◌, ap, sym, subst, refl, List, ℕ, take, length, get_or, ◌∙◌, arith}
use Rattle.std.proofs.lemmas.Int.{ints}
use Rattle.std.proofs.lemmas.List.{get_or-take, length-take-le}
use mir.Syntax.{w64}
use mir.Val.{to_z, of_z}
use Rattle.box_tree.specs.Numbers.{IsNumber, Names}
use Rattle.point_query.specs.Elements.{elements_of, each_once}
use Rattle.point_query.specs.Topmost.{items_named, if_new}
use Rattle.point_query.proofs.BoundLemmas.{steps-more}
use Rattle.point_query.proofs.KeptLemmas.{elements-more, once-written}
use Rattle.point_query.proofs.kept.keep_admitted.Goals as goal

pub loop-at-init : goal.loop-at-init
loop-at-init g c = record {
  kept_is = refl;
  fewer = omega arith;
  taken = omega arith;
  counts = omega arith;
  rest = λ k d below. refl;
}

pub item-item-requires : goal.item-item-requires
item-item-requires g c =
    let room = c.args.room.now in
    let l = c.loop-at in
    let within : l.at < length (take c.args.count room) = omega (arith, length-take-le c.args.count room c.requires.within) in
    subst (IsNumber c.args.page.now.items) (get_or-take c.args.count room l.at 0 (omega arith) ∙ sym (l.invariant.rest l.at 0 (omega arith))) (c.requires.numbers l.at 0 within)

pub write_if_new-kept-requires : goal.write_if_new-kept-requires
write_if_new-kept-requires g c = omega (arith, c.loop-at.invariant.fewer, c.loop-at.auto.room)

pub loop-at-preserved : goal.loop-at-preserved
loop-at-preserved g c =
    let page = c.args.page.now in
    let room = c.args.room.now in
    let l = c.loop-at in
    let w = c.write_if_new-kept in
    let x = to_z w64 (of_z w64 c.args.x) in
    let y = to_z w64 (of_z w64 c.args.y) in
    let before = elements_of page.contents x y (items_named page.items (take l.at room)) in
    let names : Names page.items (get_or room l.at 0) c.item-item.result = subst (λ (n : ℕ). Names page.items n c.item-item.result) (l.invariant.rest l.at 0 (omega arith)) c.item-item.ensures.item in
    let more = elements-more page.contents x y page.items room l.at c.item-item.result (omega arith) names in
    record {
      kept_is = w.ensures.ids
          ∙ ap (λ (ids : List ℕ). ids ++ if_new ids c.admitted_element-element.result) l.invariant.kept_is
          ∙ sym (once-written before c.admitted_element-element.result)
          ∙ ap (λ (ids : List ℕ). each_once (before ++ ids)) c.admitted_element-element.ensures.element
          ∙ ap each_once (sym more);
      fewer = omega (arith, w.ensures.more.1, l.invariant.fewer);
      taken = omega (arith, steps-more page.contents page.items room l.at c.item-item.result (omega arith) names, l.invariant.taken, c.item-item.ensures.step, c.admitted_element-element.ensures.cost);
      counts = omega (arith, l.invariant.counts, c.item-item.ensures.step, c.admitted_element-element.ensures.counts);
      rest = λ k d below. w.ensures.rest k d (omega (arith, below, l.invariant.fewer)) ∙ l.invariant.rest k d (omega (arith, below));
    }

pub returns-clause-elements : goal.returns-clause-elements
returns-clause-elements g c =
    let page = c.args.page.now in
    let l = c.loop-at in
    let x_is : to_z w64 (of_z w64 c.args.x) ≡ c.args.x = omega (arith, ints) in
    let y_is : to_z w64 (of_z w64 c.args.y) ≡ c.args.y = omega (arith, ints) in
    let all : l.at ≡ c.args.count = omega arith in
    rw (x_is, y_is, all) at l.invariant.kept_is

pub returns-clause-cost : goal.returns-clause-cost
returns-clause-cost g c =
    let l = c.loop-at in
    let all : l.at ≡ c.args.count = omega arith in
    rw all at l.invariant.taken
