-- The viewport is that of the edited page, by the lemma on a planned scroll of the viewport.
use Rattle.std.proofs.Common.{refl, sym, ap, ◌∙◌, subst}
use Rattle.fractions.specs.declared.rect.Spot.{Spot}
use Rattle.box_tree.specs.declared.plan.Plan.TheVariants.{ScrollViewport}
use Rattle.box_tree.specs.declared.plan.Taken.TheVariants.{Untouched}
use Rattle.box_tree.specs.declared.viewport.Viewport.{Viewport}
use Rattle.box_tree.specs.Edited.{edited, answer_of}
use Rattle.box_tree.specs.TreeState.{TreeState}
use Rattle.box_tree.specs.Planned.{IsPlanned}
use Rattle.box_tree.proofs.PlanLemmas.{state_of, Carries, taken_as}
use Rattle.box_tree.proofs.ScrollLemmas.{planned-scroll_view}
use Rattle.box_tree.proofs.tree.Tree.scroll_view.Goals as goal

carried : (c : goal.After-scroll-1) → Carries c.self.inside.nodes (record c.self.inside.frame { viewport = record c.self.inside.frame.viewport { scroll = c.clamp-scroll.result } }) Untouched (state_of c.self.inside.nodes c.self.inside.frame) c.args.edit.now.value
carried c =
    let seen : Spot → Viewport = (λ scroll. record c.self.inside.frame.viewport { scroll = scroll }) in
    planned-scroll_view c.self.inside.nodes c.self.inside.frame (record c.self.inside.frame { viewport = record c.self.inside.frame.viewport { scroll = c.clamp-scroll.result } }) c.args.to c.args.edit.now.value c.self.invariant
    (subst (λ (page : TreeState). IsPlanned (ScrollViewport c.args.to) c.args.edit.now.value page) (sym c.self.view_is) c.requires)
    refl refl (ap seen c.clamp-scroll.ensures) refl

pub invariant_of-self : goal.invariant_of-self
invariant_of-self c = (carried c).means.counted

pub returns-clause-contents : goal.returns-clause-contents
returns-clause-contents c = (carried c).means.is ∙ ap (λ (page : TreeState). edited page.contents c.args.edit.now.value) c.self.view_is

pub returns-clause-room : goal.returns-clause-room
returns-clause-room c = ap (λ (page : TreeState). page.room) c.self.view_is

pub returns-clause-taken : goal.returns-clause-taken
returns-clause-taken c = taken_as _ _ _ _ _ _ c.self.view_is (carried c)

pub returns-clause-answer : goal.returns-clause-answer
returns-clause-answer c = (carried c).answer_is ∙ ap (λ (page : TreeState). answer_of page.contents c.args.edit.now.value) c.self.view_is
