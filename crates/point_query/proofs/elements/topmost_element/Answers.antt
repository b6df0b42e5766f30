-- The first element of the layer, or the root.
use Rattle.std.proofs.Common.{◌≡◌, ℕ, List, length, reverse, take, Option, Some, ap, sym, ◌∙◌, arith}
use Rattle.std.specs.Prelude.{unwrap_or, slice_get}
use Rattle.std.proofs.lemmas.Int.{ints}
use Rattle.std.proofs.lemmas.List.{length-take-le}
use mir.Syntax.{w64}
use mir.Val.{to_z, of_z}
use Rattle.stacking.specs.OnPage.{of_node}
use Rattle.stacking.specs.Painting.{layer}
use Rattle.point_query.proofs.InsideLemmas.{x-within, y-within}
use Rattle.point_query.proofs.KeptLemmas.{first-then_root}
use Rattle.point_query.proofs.QueryLemmas.{least-bound, elements-within}
use Rattle.point_query.specs.Elements.{elements_of}
use Rattle.point_query.proofs.elements.topmost_element.Goals as goal

pub first_admitted-first-requires-clause-x : goal.first_admitted-first-requires-clause-x
first_admitted-first-requires-clause-x g c =
    let found = c.in_ok-found.ensures.found in
    x-within c.args.page.now.contents.viewport (to_z w64 (of_z w64 c.args.x)) (to_z w64 (of_z w64 c.args.y)) c.validity.ensures.viewport found.inside

pub first_admitted-first-requires-clause-y : goal.first_admitted-first-requires-clause-y
first_admitted-first-requires-clause-y g c =
    let found = c.in_ok-found.ensures.found in
    y-within c.args.page.now.contents.viewport (to_z w64 (of_z w64 c.args.x)) (to_z w64 (of_z w64 c.args.y)) c.validity.ensures.viewport found.inside

pub returns-clause-first : goal.returns-clause-first
returns-clause-first g c =
    let page = c.args.page.now.contents in
    let root = c.in_ok-found.found.root in
    let x_is : to_z w64 (of_z w64 c.args.x) ≡ c.args.x = omega (arith, ints) in
    let y_is : to_z w64 (of_z w64 c.args.y) ≡ c.args.y = omega (arith, ints) in
    let found = rw (x_is, y_is) at c.in_ok-found.ensures.found in
    let first = rw (x_is, y_is) at c.first_admitted-first.ensures.first in
    ap (λ (id : ℕ). Some id) (c.unwrap_or.ensures ∙ ap (λ (o : Option ℕ). unwrap_or o root) (first ∙ ap (λ (ids : List ℕ). slice_get ids 0) found.elements))
    ∙ first-then_root root (elements_of page c.args.x c.args.y (reverse (of_node layer page root)))
    ∙ ap (λ (ids : List ℕ). slice_get ids 0) (sym (elements-within page c.args.x c.args.y root found.inside found.rooted))

pub returns-in_err-found-clause-most : goal.returns-in_err-found-clause-most
returns-in_err-found-clause-most g c =
    let page = c.args.page.now.contents in
    let x_is : to_z w64 (of_z w64 c.args.x) ≡ c.args.x = omega (arith, ints) in
    let y_is : to_z w64 (of_z w64 c.args.y) ≡ c.args.y = omega (arith, ints) in
    let taken = rw (x_is, y_is) at c.topmost_first.ensures.inside in
    λ inside. omega (arith, taken inside, least-bound page c.args.x c.args.y)

pub returns-clause-most : goal.returns-clause-most
returns-clause-most g c =
    let x_is : to_z w64 (of_z w64 c.args.x) ≡ c.args.x = omega (arith, ints) in
    let y_is : to_z w64 (of_z w64 c.args.y) ≡ c.args.y = omega (arith, ints) in
    let held = rw (x_is, y_is) at c.in_ok-found.ensures.most in
    let taken = rw (x_is, y_is) at c.topmost_first.ensures.inside in
    let count : length (take c.in_ok-found.found.count c.topmost_first.new.room) ≡ c.in_ok-found.found.count = length-take-le c.in_ok-found.found.count c.topmost_first.new.room (omega (arith, c.in_ok-found.ensures.fewer, c.topmost_first.ensures.len, c.requires.room)) in
    λ inside. omega (arith, taken inside, held, count, c.first_admitted-first.ensures.cost)

pub returns-in_err-found-clause-least : goal.returns-in_err-found-clause-least
returns-in_err-found-clause-least g c =
    let x_is : to_z w64 (of_z w64 c.args.x) ≡ c.args.x = omega (arith, ints) in
    let y_is : to_z w64 (of_z w64 c.args.y) ≡ c.args.y = omega (arith, ints) in
    let taken = rw (x_is, y_is) at c.topmost_first.ensures.inside in
    λ inside. omega (arith, taken inside)

pub returns-clause-least : goal.returns-clause-least
returns-clause-least g c =
    let x_is : to_z w64 (of_z w64 c.args.x) ≡ c.args.x = omega (arith, ints) in
    let y_is : to_z w64 (of_z w64 c.args.y) ≡ c.args.y = omega (arith, ints) in
    let taken = rw (x_is, y_is) at c.topmost_first.ensures.inside in
    λ inside. omega (arith, taken inside, c.first_admitted-first.ensures.counts)
