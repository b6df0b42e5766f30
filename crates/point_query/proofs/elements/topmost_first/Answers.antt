-- The numbers of the items near the point are ordered by the forest, where there is a root.
use Rattle.std.proofs.Common.{◌≡◌, ℕ, List, [], ◌∷◌, length, take, drop, true, sym, subst, ap, ◌∙◌, inl, inr, arith}
use Rattle.std.specs.List.{sum_by}
use Rattle.std.proofs.lemmas.Bool.{false≢true}
use Rattle.std.proofs.lemmas.Int.{ints}
use mir.Syntax.{w64}
use mir.Val.{to_z, of_z}
use Rattle.box_tree.specs.Forest.{roots_of}
use Rattle.point_query.specs.Elements.{is_inside}
use Rattle.point_query.specs.Bound.{member_bound}
use Rattle.point_query.specs.Near.{is_held}
use Rattle.point_query.specs.Topmost.{AreTopmostFirst, items_named}
use Rattle.point_query.proofs.CandidateLemmas.{held-front, held-moved, held-count}
use Rattle.point_query.proofs.LayerLemmas.{forest-ordered}
use Rattle.point_query.proofs.QueryLemmas.{ordered-topmost_first, held-bound}
use Rattle.point_query.proofs.elements.topmost_first.Goals as goal

pub order_topmost_first-requires : goal.order_topmost_first-requires
order_topmost_first-requires g c =
    let page = c.args.page.now in
    forest-ordered page.contents c.validity.ensures page.items c.numbering.ensures c.args.forest.now c.requires.forest c.in_ok-root.root (sym c.in_ok-root.ensures.root)

pub candidates-near-requires-clause-inside : goal.candidates-near-requires-clause-inside
candidates-near-requires-clause-inside g c =
    let told = rw c.viewport.ensures at c.holds_point.ensures in
    sym told ∙ c.if-not-holds_point.false

pub returns-clause-found : goal.returns-clause-found
returns-clause-found g c =
    let page = c.args.page.now in
    let bounds = c.args.bounds.now in
    let x_is : to_z w64 (of_z w64 c.args.x) ≡ c.args.x = omega (arith, ints) in
    let y_is : to_z w64 (of_z w64 c.args.y) ≡ c.args.y = omega (arith, ints) in
    let told = rw (x_is, y_is, c.viewport.ensures) at c.holds_point.ensures in
    let inside : is_inside page.contents.viewport c.args.x c.args.y ≡ true = sym told ∙ c.if-not-holds_point.false in
    let near = rw (x_is, y_is) at c.candidates-near.ensures.near in
    let held = rw (x_is, y_is) at c.keep_held-count.ensures.held in
    let numbers = take c.candidates-near.result c.candidates-near.new.room in
    let rest = drop c.candidates-near.result c.candidates-near.new.room in
    let after = c.order_topmost_first.new.numbers in
    let p = is_held bounds c.args.x c.args.y in
    let front = held-front p c.keep_held-count.result numbers c.keep_held-count.new.numbers rest after c.keep_held-count.ensures.len c.keep_held-count.ensures.fewer held c.order_topmost_first.ensures.permutation in
    let moved = held-moved p c.keep_held-count.result numbers c.keep_held-count.new.numbers rest after c.keep_held-count.ensures.len c.keep_held-count.ensures.fewer held c.order_topmost_first.ensures.permutation in
    subst (AreTopmostFirst page.contents page.items c.args.x c.args.y c.in_ok-root.root) (sym front)
    (ordered-topmost_first page.contents c.validity.ensures page.items c.numbering.ensures c.args.x c.args.y bounds c.requires.bounds c.args.forest.now c.requires.forest c.in_ok-root.root (sym c.in_ok-root.ensures.root) inside
    numbers after near c.candidates-near.ensures.once c.candidates-near.ensures.numbers moved c.order_topmost_first.ensures.sorted)

pub returns-clause-most : goal.returns-clause-most
returns-clause-most g c =
    let page = c.args.page.now in
    let x_is : to_z w64 (of_z w64 c.args.x) ≡ c.args.x = omega (arith, ints) in
    let y_is : to_z w64 (of_z w64 c.args.y) ≡ c.args.y = omega (arith, ints) in
    let near = rw (x_is, y_is) at c.candidates-near.ensures.near in
    let held = rw (x_is, y_is) at c.keep_held-count.ensures.held in
    let numbers = take c.candidates-near.result c.candidates-near.new.room in
    let rest = drop c.candidates-near.result c.candidates-near.new.room in
    let after = c.order_topmost_first.new.numbers in
    let p = is_held c.args.bounds.now c.args.x c.args.y in
    let front = held-front p c.keep_held-count.result numbers c.keep_held-count.new.numbers rest after c.keep_held-count.ensures.len c.keep_held-count.ensures.fewer held c.order_topmost_first.ensures.permutation in
    let moved = held-moved p c.keep_held-count.result numbers c.keep_held-count.new.numbers rest after c.keep_held-count.ensures.len c.keep_held-count.ensures.fewer held c.order_topmost_first.ensures.permutation in
    let count : length after ≡ c.keep_held-count.result = held-count p c.keep_held-count.result numbers c.keep_held-count.new.numbers rest after c.keep_held-count.ensures.len c.keep_held-count.ensures.fewer held c.order_topmost_first.ensures.permutation in
    let steps_of : List ℕ → ℕ = λ ns. sum_by (member_bound page.contents) (items_named page.items ns) in
    omega (arith, ap steps_of front, count, held-bound page.contents c.validity.ensures page.items c.numbering.ensures c.args.x c.args.y p numbers after near moved)

pub returns-clause-none : goal.returns-clause-none
returns-clause-none g c =
    let page = c.args.page.now.contents in
    let x_is : to_z w64 (of_z w64 c.args.x) ≡ c.args.x = omega (arith, ints) in
    let y_is : to_z w64 (of_z w64 c.args.y) ≡ c.args.y = omega (arith, ints) in
    let told = rw (x_is, y_is, c.viewport.ensures) at c.holds_point.ensures in
    let inside : is_inside page.viewport c.args.x c.args.y ≡ true = sym told ∙ c.if-not-holds_point.false in
    let rooted : c.in_ok-root.root ∷ [] ≡ roots_of page.tree = c.in_ok-root.ensures.root in (
      λ none. absurd (false≢true (sym none)),
      λ none. elim none [
        | inl outside ↦ absurd (false≢true (sym outside ∙ inside))
        | inr bare ↦ let both : c.in_ok-root.root ∷ [] ≡ [] = rooted ∙ bare in absurd cc
      ],
    )
