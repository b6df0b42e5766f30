-- The viewport is that of the edited page, by the lemma on a planned resize.
use Rattle.std.proofs.Common.{◌≡◌, refl, sym, ap, ◌∙◌, subst, arith}
use Rattle.std.proofs.lemmas.Int.{ints}
use mir.Syntax.{w64}
use mir.Val.{to_z, of_z}
use Rattle.fractions.specs.declared.rect.Spot.{Spot}
use Rattle.box_tree.specs.declared.plan.Plan.TheVariants.{ResizeViewport}
use Rattle.box_tree.specs.declared.plan.Taken.TheVariants.{Untouched}
use Rattle.box_tree.specs.declared.viewport.Viewport.{Viewport}
use Rattle.box_tree.specs.Edited.{edited, answer_of}
use Rattle.box_tree.specs.TreeState.{TreeState}
use Rattle.box_tree.specs.Planned.{IsPlanned}
use Rattle.box_tree.proofs.PlanLemmas.{state_of, Carries, taken_as}
use Rattle.box_tree.proofs.PlaceLemmas.{planned-resize}
use Rattle.box_tree.proofs.tree.Tree.resize.Goals as goal

carried : (c : goal.After-self-1) → Carries c.self.inside.nodes (record c.self.inside.frame { viewport = record { w = c.args.w; h = c.args.h; scroll = c.clamp-scroll.result; max = c.args.max } }) Untouched (state_of c.self.inside.nodes c.self.inside.frame) c.args.edit.now.value
carried c =
    let seen : Spot → Viewport = (λ scroll. record { w = c.args.w; h = c.args.h; scroll = scroll; max = c.args.max }) in
    planned-resize c.self.inside.nodes c.self.inside.frame (record c.self.inside.frame { viewport = record { w = c.args.w; h = c.args.h; scroll = c.clamp-scroll.result; max = c.args.max } }) c.args.w c.args.h c.args.max c.args.edit.now.value c.self.invariant
    (subst (λ (page : TreeState). IsPlanned (ResizeViewport c.args.w c.args.h c.args.max) c.args.edit.now.value page) (sym c.self.view_is) c.requires)
    refl refl (ap seen c.clamp-scroll.ensures) refl

pub invariant_of-self : goal.invariant_of-self
invariant_of-self c =
    let w_is : to_z w64 (of_z w64 c.args.w) ≡ c.args.w = omega (arith, ints) in
    let h_is : to_z w64 (of_z w64 c.args.h) ≡ c.args.h = omega (arith, ints) in
    rw (w_is, h_is) (carried c).means.counted

pub returns-clause-contents : goal.returns-clause-contents
returns-clause-contents c =
    let w_is : to_z w64 (of_z w64 c.args.w) ≡ c.args.w = omega (arith, ints) in
    let h_is : to_z w64 (of_z w64 c.args.h) ≡ c.args.h = omega (arith, ints) in
    rw (w_is, h_is) ((carried c).means.is ∙ ap (λ (page : TreeState). edited page.contents c.args.edit.now.value) c.self.view_is)

pub returns-clause-room : goal.returns-clause-room
returns-clause-room c = ap (λ (page : TreeState). page.room) c.self.view_is

pub returns-clause-taken : goal.returns-clause-taken
returns-clause-taken c =
    let w_is : to_z w64 (of_z w64 c.args.w) ≡ c.args.w = omega (arith, ints) in
    let h_is : to_z w64 (of_z w64 c.args.h) ≡ c.args.h = omega (arith, ints) in
    rw (w_is, h_is) (taken_as _ _ _ _ _ _ c.self.view_is (carried c))

pub returns-clause-answer : goal.returns-clause-answer
returns-clause-answer c = (carried c).answer_is ∙ ap (λ (page : TreeState). answer_of page.contents c.args.edit.now.value) c.self.view_is
