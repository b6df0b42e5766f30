-- The relocated nodes are those of the edited page, by the lemma on a planned move.
use Rattle.std.proofs.Common.{sym, ap, ◌∙◌, subst}
use Rattle.box_tree.specs.declared.plan.Plan.TheVariants.{MoveNodes}
use Rattle.box_tree.specs.declared.plan.Relocation.{Relocation}
use Rattle.box_tree.specs.declared.plan.Taken.TheVariants.{Moved}
use Rattle.box_tree.specs.Edited.{edited, answer_of}
use Rattle.box_tree.specs.TreeState.{TreeState}
use Rattle.box_tree.specs.Planned.{back_from, IsPlanned}
use Rattle.box_tree.specs.Taken.{IsTaken}
use Rattle.box_tree.proofs.PlanLemmas.{state_of, Carries, taken_as}
use Rattle.box_tree.proofs.MoveLemmas.{planned-may_relocate, planned-move}
use Rattle.box_tree.specs.Contents.{node_of}
use Rattle.box_tree.specs.Kept.{node_with}
use Rattle.box_tree.specs.Touched.{seen_of}
use Rattle.box_tree.proofs.SeenLemmas.{seen-moved}
use Rattle.box_tree.proofs.tree.Tree.relocate.Goals as goal

pub exchange_places-had-requires : goal.exchange_places-had-requires
exchange_places-had-requires c = planned-may_relocate c.self.inside.nodes c.self.inside.frame c.self.invariant c.args.place c.args.siblings c.args.children c.args.ids c.args.edit.now.value
    (subst (λ (page : TreeState). IsPlanned (MoveNodes c.args.place c.args.siblings c.args.children c.args.ids) c.args.edit.now.value page) (sym c.self.view_is) c.requires)

carried : (c : goal.After-way_back) → Carries c.exchange_places-had.new.nodes c.self.inside.frame (Moved (back_from c.args.place) c.exchange_places-had.result.children c.exchange_places-had.result.siblings c.args.ids) (state_of c.self.inside.nodes c.self.inside.frame) c.args.edit.now.value
carried c =
    let exchanged = c.exchange_places-had.ensures in
    planned-move c.self.inside.nodes c.self.inside.frame c.self.invariant c.args.place c.args.siblings c.args.children c.args.ids c.args.edit.now.value c.exchange_places-had.new.nodes c.exchange_places-had.result.siblings c.exchange_places-had.result.children
    (subst (λ (page : TreeState). IsPlanned (MoveNodes c.args.place c.args.siblings c.args.children c.args.ids) c.args.edit.now.value page) (sym c.self.view_is) c.requires)
    exchanged.looked_up exchanged.count exchanged.same_room exchanged.siblings exchanged.children

pub invariant_of-self : goal.invariant_of-self
invariant_of-self c = (carried c).means.counted

pub returns-clause-contents : goal.returns-clause-contents
returns-clause-contents c = (carried c).means.is ∙ ap (λ (page : TreeState). edited page.contents c.args.edit.now.value) c.self.view_is

pub returns-clause-room : goal.returns-clause-room
returns-clause-room c = c.exchange_places-had.ensures.same_room.room ∙ ap (λ (page : TreeState). page.room) c.self.view_is

pub returns-clause-taken : goal.returns-clause-taken
returns-clause-taken c = subst (λ (place : Relocation). IsTaken (Moved place c.exchange_places-had.result.children c.exchange_places-had.result.siblings c.args.ids) c.args.self.now.contents (state_of c.exchange_places-had.new.nodes c.self.inside.frame).contents c.exchange_places-had.new.nodes.room) (sym c.way_back.ensures)
    (taken_as _ _ _ _ _ _ c.self.view_is (carried c))

pub returns-clause-answer : goal.returns-clause-answer
returns-clause-answer c = (carried c).answer_is ∙ ap (λ (page : TreeState). answer_of page.contents c.args.edit.now.value) c.self.view_is

pub returns-clause-seen : goal.returns-clause-seen
returns-clause-seen c = λ k.
    ap seen_of (sym ((carried c).means.counted.kept.looked_up k) ∙ c.exchange_places-had.ensures.looked_up k)
    ∙ seen-moved c.args.place c.args.siblings c.args.children c.args.ids k (node_with c.self.inside.nodes.nodes k)
    ∙ ap seen_of (c.self.invariant.kept.looked_up k ∙ ap (λ (page : TreeState). node_of page.contents k) c.self.view_is)
