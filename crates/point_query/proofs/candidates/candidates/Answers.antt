-- The members of the cells of one level more.
use Rattle.std.proofs.Common.{◌≡◌, ◌+◌, ◌≤◌, ◌++◌, ℕ, List, length, take, true, refl, sym, ap, subst, ◌∙◌, add-one, arith, suc}
use Rattle.std.specs.List.Sorted.{IsPermutation}
use Rattle.std.proofs.lemmas.Int.{ints}
use Rattle.std.proofs.lemmas.List.{length-append}
use mir.Syntax.{w64}
use mir.Val.{to_z, of_z}
use Rattle.paint_order.specs.Order.{is_member}
use Rattle.point_query.specs.Elements.{is_inside}
use Rattle.point_query.specs.Near.{members_below}
use Rattle.point_query.specs.Topmost.{StandOnce}
use Rattle.point_query.proofs.OrderLemmas.{member-at}
use Rattle.point_query.proofs.CellLemmas.{numbers-below, once-below, fewer-below, near-members, near-count}
use Rattle.point_query.proofs.candidates.candidates.Goals as goal

pub loop-level-init : goal.loop-level-init
loop-level-init g c = record { written = refl; counted = refl; taken = omega arith }

pub append-count-requires : goal.append-count-requires
append-count-requires g c =
    let page = c.args.page.now in
    let x = to_z w64 (of_z w64 c.args.x) in
    let y = to_z w64 (of_z w64 c.args.y) in
    let x_is : x ≡ c.args.x = omega (arith, ints) in
    let y_is : y ≡ c.args.y = omega (arith, ints) in
    let inside : is_inside page.contents.viewport x y ≡ true = rw (x_is, y_is) c.requires.inside in
    let l = c.loop-level in
    let more : length (members_below c.args.grid.now x y l.level ++ c.visit.result.now) ≤ length l.room = omega (
      arith,
      fewer-below page.contents page.items c.args.grid.now c.requires.grid x y inside c.validity.ensures c.numbering.ensures (suc l.level) (omega (arith, c.loop-level-test.true)),
      ap (λ (ns : List ℕ). length (members_below c.args.grid.now x y l.level ++ ns)) c.visit.ensures.items,
      c.requires.room,
      l.auto.room,
    ) in
    omega (arith, more, length-append (members_below c.args.grid.now x y l.level) c.visit.result.now, l.invariant.counted)

pub loop-level-preserved : goal.loop-level-preserved
loop-level-preserved g c =
    let x = to_z w64 (of_z w64 c.args.x) in
    let y = to_z w64 (of_z w64 c.args.y) in
    let l = c.loop-level in
    let w = c.append-count in
    let below = members_below c.args.grid.now x y in
    let written : below l.level ++ c.visit.result.now ≡ below (l.level + 1) = ap (λ (ns : List ℕ). below l.level ++ ns) c.visit.ensures.items ∙ ap below (sym (add-one l.level)) in
    record {
      written = w.ensures.numbers ∙ ap (λ (ns : List ℕ). ns ++ c.visit.result.now) l.invariant.written ∙ written;
      counted = omega (arith, w.ensures.more, l.invariant.counted, length-append (below l.level) c.visit.result.now, ap (λ (ns : List ℕ). length ns) written);
      taken = omega (arith, w.ensures.cost, w.ensures.more, c.visit.ensures.cost, l.invariant.taken);
    }

pub returns-clause-numbers : goal.returns-clause-numbers
returns-clause-numbers g c =
    let page = c.args.page.now in
    let x = to_z w64 (of_z w64 c.args.x) in
    let y = to_z w64 (of_z w64 c.args.y) in
    let x_is : x ≡ c.args.x = omega (arith, ints) in
    let y_is : y ≡ c.args.y = omega (arith, ints) in
    let inside : is_inside page.contents.viewport x y ≡ true = rw (x_is, y_is) c.requires.inside in
    let l = c.loop-level in
    λ k d within. numbers-below page.contents page.items c.args.grid.now c.requires.grid x y inside l.level _ l.auto.level-end (ap (is_member _) (sym l.invariant.written) ∙ member-at (take l.count l.room) k d within)

pub returns-clause-once : goal.returns-clause-once
returns-clause-once g c =
    let page = c.args.page.now in
    let x = to_z w64 (of_z w64 c.args.x) in
    let y = to_z w64 (of_z w64 c.args.y) in
    let x_is : x ≡ c.args.x = omega (arith, ints) in
    let y_is : y ≡ c.args.y = omega (arith, ints) in
    let inside : is_inside page.contents.viewport x y ≡ true = rw (x_is, y_is) c.requires.inside in
    let l = c.loop-level in
    subst StandOnce (sym l.invariant.written) (once-below page.contents page.items c.args.grid.now c.requires.grid x y inside l.level l.auto.level-end)

pub returns-clause-near : goal.returns-clause-near
returns-clause-near g c =
    let page = c.args.page.now in
    let x_is : to_z w64 (of_z w64 c.args.x) ≡ c.args.x = omega (arith, ints) in
    let y_is : to_z w64 (of_z w64 c.args.y) ≡ c.args.y = omega (arith, ints) in
    let l = c.loop-level in
    let last : l.level ≡ 10 = omega (arith, l.auto.level-end, c.loop-level-test.false) in
    let written = rw (x_is, y_is, last) at l.invariant.written in
    subst (IsPermutation _) (sym written) (near-members page.contents page.items c.args.grid.now c.requires.grid c.args.x c.args.y c.requires.inside c.validity.ensures c.numbering.ensures)

pub returns-clause-fewer : goal.returns-clause-fewer
returns-clause-fewer g c =
    let page = c.args.page.now in
    let x = to_z w64 (of_z w64 c.args.x) in
    let y = to_z w64 (of_z w64 c.args.y) in
    let x_is : x ≡ c.args.x = omega (arith, ints) in
    let y_is : y ≡ c.args.y = omega (arith, ints) in
    let inside : is_inside page.contents.viewport x y ≡ true = rw (x_is, y_is) c.requires.inside in
    let l = c.loop-level in
    omega (arith, l.invariant.counted, fewer-below page.contents page.items c.args.grid.now c.requires.grid x y inside c.validity.ensures c.numbering.ensures l.level l.auto.level-end)

pub returns-clause-count : goal.returns-clause-count
returns-clause-count g c =
    let page = c.args.page.now in
    let x_is : to_z w64 (of_z w64 c.args.x) ≡ c.args.x = omega (arith, ints) in
    let y_is : to_z w64 (of_z w64 c.args.y) ≡ c.args.y = omega (arith, ints) in
    let l = c.loop-level in
    let last : l.level ≡ 10 = omega (arith, l.auto.level-end, c.loop-level-test.false) in
    rw (x_is, y_is, last) at l.invariant.counted ∙ near-count page.contents page.items c.args.grid.now c.requires.grid c.args.x c.args.y c.requires.inside c.validity.ensures c.numbering.ensures

pub returns-clause-cost : goal.returns-clause-cost
returns-clause-cost g c =
    let page = c.args.page.now in
    let x_is : to_z w64 (of_z w64 c.args.x) ≡ c.args.x = omega (arith, ints) in
    let y_is : to_z w64 (of_z w64 c.args.y) ≡ c.args.y = omega (arith, ints) in
    let l = c.loop-level in
    let last : l.level ≡ 10 = omega (arith, l.auto.level-end, c.loop-level-test.false) in
    let counted = rw (x_is, y_is, last) at l.invariant.counted in
    omega (arith, l.invariant.taken, last, counted, near-count page.contents page.items c.args.grid.now c.requires.grid c.args.x c.args.y c.requires.inside c.validity.ensures c.numbering.ensures)
