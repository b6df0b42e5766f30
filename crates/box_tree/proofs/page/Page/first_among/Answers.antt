-- The nodes are asked one after another.
use Rattle.std.proofs.Common.{◌≡◌, refl, ap, ◌∙◌, arith, FitsSigned, to_z, of_z}
use mir.Syntax.{w128}
use Rattle.std.proofs.lemmas.Int.{to_z-of_z}
use Rattle.box_tree.specs.Covers.{covering_among}
use Rattle.box_tree.proofs.CoverLemmas.{covered, not_covered, none_covered}
use Rattle.box_tree.proofs.ExchangeLemmas.{drop_at}
use Rattle.box_tree.proofs.page.Page.first_among.Goals as goal

pub loop-id-init : goal.loop-id-init
loop-id-init g c = record { first = refl; steps = omega arith; within = omega arith }

pub returns-then-covers_at-clause-first : goal.returns-then-covers_at-clause-first
returns-then-covers_at-clause-first g c =
    let fits_x : FitsSigned w128 c.args.x = c.ranges.x in
    let fits_y : FitsSigned w128 c.args.y = c.ranges.y in
    let x_is : to_z w128 (of_z w128 c.args.x) ≡ c.args.x = simp to_z-of_z refl in
    let y_is : to_z w128 (of_z w128 c.args.y) ≡ c.args.y = simp to_z-of_z refl in
    covered c.args.self.now.contents (to_z w128 (of_z w128 c.args.x)) (to_z w128 (of_z w128 c.args.y)) c.args.ids.now c.loop-id.id-index c.args.steps.now c.loop-id.steps _ c.covers_at.result
    c.loop-id.invariant (drop_at c.args.ids.now c.loop-id.id-index _ 0 c.loop-id-test.true refl) c.covers_at.ensures c.if-covers_at.true
    ∙ ap (λ z. covering_among c.args.self.now.contents z (to_z w128 (of_z w128 c.args.y)) c.args.ids.now) x_is
    ∙ ap (λ z. covering_among c.args.self.now.contents c.args.x z c.args.ids.now) y_is

pub returns-then-covers_at-clause-steps : goal.returns-then-covers_at-clause-steps
returns-then-covers_at-clause-steps g c = omega (arith, c.tick.ensures, c.loop-id.invariant.steps, c.loop-id-test.true)

pub loop-id-preserved : goal.loop-id-preserved
loop-id-preserved g c =
    not_covered c.args.self.now.contents (to_z w128 (of_z w128 c.args.x)) (to_z w128 (of_z w128 c.args.y)) c.args.ids.now c.loop-id.id-index c.args.steps.now c.loop-id.steps c.tick.new.self _ c.covers_at.result
    c.loop-id.invariant (drop_at c.args.ids.now c.loop-id.id-index _ 0 c.loop-id-test.true refl) c.covers_at.ensures c.if-covers_at.false c.tick.ensures c.loop-id-test.true

pub returns-clause-first : goal.returns-clause-first
returns-clause-first g c =
    let fits_x : FitsSigned w128 c.args.x = c.ranges.x in
    let fits_y : FitsSigned w128 c.args.y = c.ranges.y in
    let x_is : to_z w128 (of_z w128 c.args.x) ≡ c.args.x = simp to_z-of_z refl in
    let y_is : to_z w128 (of_z w128 c.args.y) ≡ c.args.y = simp to_z-of_z refl in
    none_covered c.args.self.now.contents (to_z w128 (of_z w128 c.args.x)) (to_z w128 (of_z w128 c.args.y)) c.args.ids.now c.loop-id.id-index c.args.steps.now c.loop-id.steps c.loop-id.invariant c.loop-id-test.false
    ∙ ap (λ z. covering_among c.args.self.now.contents z (to_z w128 (of_z w128 c.args.y)) c.args.ids.now) x_is
    ∙ ap (λ z. covering_among c.args.self.now.contents c.args.x z c.args.ids.now) y_is

pub returns-clause-steps : goal.returns-clause-steps
returns-clause-steps g c = omega (arith, c.loop-id.invariant.steps, c.loop-id.invariant.within)
