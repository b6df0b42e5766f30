-- The elements of the layer that are kept, and then the root.
use Rattle.std.proofs.Common.{◌≡◌, ap, sym, ◌∙◌, arith}
use Rattle.std.proofs.lemmas.Int.{ints}
use mir.Syntax.{w64}
use mir.Val.{to_z, of_z}
use Rattle.point_query.proofs.InsideLemmas.{x-within, y-within}
use Rattle.point_query.proofs.QueryLemmas.{least-bound, elements-within}
use Rattle.point_query.specs.Elements.{each_once, then_root}
use Rattle.point_query.proofs.elements.write_elements.Goals as goal

pub keep_admitted-kept-requires-clause-x : goal.keep_admitted-kept-requires-clause-x
keep_admitted-kept-requires-clause-x g c =
    let found = c.in-Some.ensures.found in
    x-within c.args.page.now.contents.viewport (to_z w64 (of_z w64 c.args.x)) (to_z w64 (of_z w64 c.args.y)) c.validity.ensures.viewport found.inside

pub keep_admitted-kept-requires-clause-y : goal.keep_admitted-kept-requires-clause-y
keep_admitted-kept-requires-clause-y g c =
    let found = c.in-Some.ensures.found in
    y-within c.args.page.now.contents.viewport (to_z w64 (of_z w64 c.args.x)) (to_z w64 (of_z w64 c.args.y)) c.validity.ensures.viewport found.inside

pub returns-clause-elements : goal.returns-clause-elements
returns-clause-elements g c =
    let page = c.args.page.now.contents in
    let x_is : to_z w64 (of_z w64 c.args.x) ≡ c.args.x = omega (arith, ints) in
    let y_is : to_z w64 (of_z w64 c.args.y) ≡ c.args.y = omega (arith, ints) in
    let found = rw (x_is, y_is) at c.in-Some.ensures.found in
    let kept = rw (x_is, y_is) at c.keep_admitted-kept.ensures.elements in
    c.end_with.ensures.ids ∙ ap (then_root c.in-Some.found.root) (kept ∙ ap each_once found.elements) ∙ sym (elements-within page c.args.x c.args.y c.in-Some.found.root found.inside found.rooted)

pub returns-in_default-clause-most : goal.returns-in_default-clause-most
returns-in_default-clause-most g c =
    let page = c.args.page.now.contents in
    let x_is : to_z w64 (of_z w64 c.args.x) ≡ c.args.x = omega (arith, ints) in
    let y_is : to_z w64 (of_z w64 c.args.y) ≡ c.args.y = omega (arith, ints) in
    let taken = rw (x_is, y_is) at c.topmost_first.ensures.inside in
    λ inside. omega (arith, taken inside, least-bound page c.args.x c.args.y)

pub returns-clause-most : goal.returns-clause-most
returns-clause-most g c =
    let x_is : to_z w64 (of_z w64 c.args.x) ≡ c.args.x = omega (arith, ints) in
    let y_is : to_z w64 (of_z w64 c.args.y) ≡ c.args.y = omega (arith, ints) in
    let held = rw (x_is, y_is) at c.in-Some.ensures.most in
    let taken = rw (x_is, y_is) at c.topmost_first.ensures.inside in
    λ inside. omega (arith, taken inside, held, c.keep_admitted-kept.ensures.cost)

pub returns-in_default-clause-least : goal.returns-in_default-clause-least
returns-in_default-clause-least g c =
    let x_is : to_z w64 (of_z w64 c.args.x) ≡ c.args.x = omega (arith, ints) in
    let y_is : to_z w64 (of_z w64 c.args.y) ≡ c.args.y = omega (arith, ints) in
    let taken = rw (x_is, y_is) at c.topmost_first.ensures.inside in
    λ inside. omega (arith, taken inside)

pub returns-clause-least : goal.returns-clause-least
returns-clause-least g c =
    let x_is : to_z w64 (of_z w64 c.args.x) ≡ c.args.x = omega (arith, ints) in
    let y_is : to_z w64 (of_z w64 c.args.y) ≡ c.args.y = omega (arith, ints) in
    let taken = rw (x_is, y_is) at c.topmost_first.ensures.inside in
    λ inside. omega (arith, taken inside, c.keep_admitted-kept.ensures.counts)
