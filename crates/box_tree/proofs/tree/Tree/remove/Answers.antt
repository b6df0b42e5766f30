-- The nodes that stay are those of the edited page, by the lemma on a planned remove.
use Rattle.std.proofs.Common.{refl, sym, ap, ◌∙◌, subst, arith}
use Rattle.box_tree.specs.declared.plan.Plan.TheVariants.{RemoveNodes}
use Rattle.box_tree.specs.declared.plan.Taken.TheVariants.{Removed}
use Rattle.box_tree.specs.declared.sums.Sums.{Sums}
use Rattle.box_tree.specs.Edited.{edited, answer_of}
use Rattle.box_tree.specs.TreeState.{TreeState}
use Rattle.box_tree.specs.Planned.{IsPlanned}
use Rattle.box_tree.specs.Totals.{sums_less}
use Rattle.box_tree.proofs.PlanLemmas.{state_of, Carries, taken_as}
use Rattle.box_tree.proofs.RemoveLemmas.{CanTake, can_take, SumsGo, sums_go, planned-remove}
use Rattle.box_tree.specs.Contents.{node_of}
use Rattle.box_tree.specs.Kept.{node_with}
use Rattle.box_tree.specs.Touched.{seen_of}
use Rattle.box_tree.proofs.SeenLemmas.{seen-children, seen-gone}
use Rattle.box_tree.proofs.tree.Tree.remove.Goals as goal

can : (c : goal.After-nodes-1) → CanTake c.self.inside.nodes c.self.inside.frame c.self.invariant c.args.parent c.args.siblings c.args.ids.now c.args.gone c.give_children-siblings.new.nodes
can c = can_take c.self.inside.nodes c.self.inside.frame c.self.invariant c.args.parent c.args.siblings c.args.ids.now c.args.gone c.args.edit.now.value c.give_children-siblings.new.nodes
    (subst (λ (page : TreeState). IsPlanned (RemoveNodes c.args.parent c.args.siblings c.args.ids.now c.args.gone) c.args.edit.now.value page) (sym c.self.view_is) c.requires) c.give_children-siblings.ensures.changed

pub take_all-requires-clause-there : goal.take_all-requires-clause-there
take_all-requires-clause-there c = (can c).there

pub take_all-requires-clause-distinct : goal.take_all-requires-clause-distinct
take_all-requires-clause-distinct c = (can c).distinct

pub take_all-requires-clause-none : goal.take_all-requires-clause-none
take_all-requires-clause-none c = (can c).none

pub take_all-requires-clause-room : goal.take_all-requires-clause-room
take_all-requires-clause-room c = (can c).room

go : (c : goal.After-nodes-2-1) → SumsGo c.self.inside.nodes c.self.inside.frame c.self.invariant c.args.parent c.args.siblings c.args.ids.now c.args.gone c.give_children-siblings.new.nodes c.take_all.new.nodes c.take_all.new.gone
    c.give_children-siblings.ensures.changed c.take_all.ensures.looked_up c.take_all.ensures.count c.take_all.ensures.same_room c.take_all.ensures.ids c.take_all.ensures.nodes
go c = sums_go c.self.inside.nodes c.self.inside.frame c.self.invariant c.args.parent c.args.siblings c.args.ids.now c.args.gone c.give_children-siblings.new.nodes c.take_all.new.nodes c.take_all.new.gone
    c.give_children-siblings.ensures.changed c.take_all.ensures.looked_up c.take_all.ensures.count c.take_all.ensures.same_room c.take_all.ensures.ids c.take_all.ensures.nodes
    c.args.edit.now.value (subst (λ (page : TreeState). IsPlanned (RemoveNodes c.args.parent c.args.siblings c.args.ids.now c.args.gone) c.args.edit.now.value page) (sym c.self.view_is) c.requires)

pub sums_of_all-requires-clause-boxes : goal.sums_of_all-requires-clause-boxes
sums_of_all-requires-clause-boxes c = let fit = go c in omega (arith, fit.boxes, fit.few_boxes)

pub sums_of_all-requires-clause-vertices : goal.sums_of_all-requires-clause-vertices
sums_of_all-requires-clause-vertices c = let fit = go c in omega (arith, fit.vertices, fit.few_vertices)

-- and so once they were added up
gone : (c : goal.After-sums_of_all) → SumsGo c.self.inside.nodes c.self.inside.frame c.self.invariant c.args.parent c.args.siblings c.args.ids.now c.args.gone c.give_children-siblings.new.nodes c.take_all.new.nodes c.take_all.new.gone
    c.give_children-siblings.ensures.changed c.take_all.ensures.looked_up c.take_all.ensures.count c.take_all.ensures.same_room c.take_all.ensures.ids c.take_all.ensures.nodes
gone c = sums_go c.self.inside.nodes c.self.inside.frame c.self.invariant c.args.parent c.args.siblings c.args.ids.now c.args.gone c.give_children-siblings.new.nodes c.take_all.new.nodes c.take_all.new.gone
    c.give_children-siblings.ensures.changed c.take_all.ensures.looked_up c.take_all.ensures.count c.take_all.ensures.same_room c.take_all.ensures.ids c.take_all.ensures.nodes
    c.args.edit.now.value (subst (λ (page : TreeState). IsPlanned (RemoveNodes c.args.parent c.args.siblings c.args.ids.now c.args.gone) c.args.edit.now.value page) (sym c.self.view_is) c.requires)

pub without-self-inside-requires-clause-boxes : goal.without-self-inside-requires-clause-boxes
without-self-inside-requires-clause-boxes c = omega (arith, ap (λ (sums : Sums). sums.boxes) c.sums_of_all.ensures, (gone c).boxes)

pub without-self-inside-requires-clause-vertices : goal.without-self-inside-requires-clause-vertices
without-self-inside-requires-clause-vertices c = omega (arith, ap (λ (sums : Sums). sums.vertices) c.sums_of_all.ensures, (gone c).vertices)

carried : (c : goal.After-self-2-1) → Carries c.take_all.new.nodes (record c.self.inside.frame { sums = c.without-self-inside.result; root = c.root_without-self-inside.result }) (Removed c.args.parent c.give_children-siblings.result c.take_all.new.gone) (state_of c.self.inside.nodes c.self.inside.frame) c.args.edit.now.value
carried c =
    planned-remove c.self.inside.nodes c.self.inside.frame c.self.invariant c.args.parent c.args.siblings c.args.ids.now c.args.gone c.give_children-siblings.new.nodes c.take_all.new.nodes c.take_all.new.gone
    c.give_children-siblings.ensures.changed c.take_all.ensures.looked_up c.take_all.ensures.count c.take_all.ensures.same_room c.take_all.ensures.ids c.take_all.ensures.nodes
    c.args.edit.now.value (record c.self.inside.frame { sums = c.without-self-inside.result; root = c.root_without-self-inside.result }) c.give_children-siblings.result
    (subst (λ (page : TreeState). IsPlanned (RemoveNodes c.args.parent c.args.siblings c.args.ids.now c.args.gone) c.args.edit.now.value page) (sym c.self.view_is) c.requires)
    c.give_children-siblings.ensures.had (c.without-self-inside.ensures ∙ ap (sums_less c.self.inside.frame.sums) c.sums_of_all.ensures) c.root_without-self-inside.ensures refl refl

pub invariant_of-self : goal.invariant_of-self
invariant_of-self c = (carried c).means.counted

pub returns-clause-contents : goal.returns-clause-contents
returns-clause-contents c = (carried c).means.is ∙ ap (λ (page : TreeState). edited page.contents c.args.edit.now.value) c.self.view_is

pub returns-clause-room : goal.returns-clause-room
returns-clause-room c = c.take_all.ensures.same_room.room ∙ c.give_children-siblings.ensures.changed.same_room.room ∙ ap (λ (page : TreeState). page.room) c.self.view_is

pub returns-clause-taken : goal.returns-clause-taken
returns-clause-taken c = taken_as _ _ _ _ _ _ c.self.view_is (carried c)

pub returns-clause-answer : goal.returns-clause-answer
returns-clause-answer c = (carried c).answer_is ∙ ap (λ (page : TreeState). answer_of page.contents c.args.edit.now.value) c.self.view_is

pub returns-clause-seen : goal.returns-clause-seen
returns-clause-seen c = λ k.
    let given = c.give_children-siblings.new.nodes.nodes in
    let had = c.self.inside.nodes.nodes in
    ap seen_of (sym ((carried c).means.counted.kept.looked_up k) ∙ c.take_all.ensures.looked_up k)
    ∙ seen-gone c.args.ids.now k (node_of c.args.self.now.contents k) (node_with given k)
    (ap seen_of (c.give_children-siblings.ensures.changed.looked_up k) ∙ seen-children c.args.parent c.args.siblings k (node_with had k) ∙ ap seen_of (c.self.invariant.kept.looked_up k ∙ ap (λ (page : TreeState). node_of page.contents k) c.self.view_is))
