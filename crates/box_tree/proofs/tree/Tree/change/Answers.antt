-- The changed node is that of the edited page, by the lemma on a planned change.
use Rattle.std.proofs.Common.{refl, sym, ap, ◌∙◌, subst, arith}
use Rattle.box_tree.specs.declared.plan.Plan.TheVariants.{ChangeNode}
use Rattle.box_tree.specs.declared.plan.Taken.TheVariants.{Changed}
use Rattle.box_tree.specs.declared.sums.Sums.{Sums}
use Rattle.box_tree.specs.Edited.{edited, answer_of}
use Rattle.box_tree.specs.Kept.{node_with, with_label}
use Rattle.box_tree.specs.TreeState.{TreeState}
use Rattle.box_tree.specs.Planned.{IsPlanned}
use Rattle.box_tree.specs.Totals.{sums_at, sums_more, sums_less}
use Rattle.box_tree.proofs.PlanLemmas.{state_of, Carries, taken_as}
use Rattle.box_tree.proofs.ChangeLemmas.{HasSums, has_sums, planned-change}
use Rattle.box_tree.specs.Change.{changed}
use Rattle.box_tree.specs.Contents.{node_of}
use Rattle.box_tree.specs.Nodes.{changed_at}
use Rattle.box_tree.specs.Touched.{seen_of}
use Rattle.box_tree.proofs.tree.Tree.change.Goals as goal

has : (c : goal.After-sums_at) → HasSums c.self.inside.nodes c.self.inside.frame c.self.invariant c.args.id c.args.change
has c = has_sums c.self.inside.nodes c.self.inside.frame c.self.invariant c.args.id c.args.change c.args.edit.now.value (subst (λ (page : TreeState). IsPlanned (ChangeNode c.args.id c.args.change) c.args.edit.now.value page) (sym c.self.view_is) c.requires)

pub without-others-requires-clause-boxes : goal.without-others-requires-clause-boxes
without-others-requires-clause-boxes c = omega (arith, ap (λ (sums : Sums). sums.boxes) (c.sums_at.ensures ∙ ap sums_at c.find.ensures), (has c).boxes)

pub without-others-requires-clause-vertices : goal.without-others-requires-clause-vertices
without-others-requires-clause-vertices c = omega (arith, ap (λ (sums : Sums). sums.vertices) (c.sums_at.ensures ∙ ap sums_at c.find.ensures), (has c).vertices)

-- with the sums that the page then has
carried : (c : goal.After-sums_at-2) → Carries c.change_node-change.new.nodes (record c.self.inside.frame { sums = sums_more c.without-others.result c.sums_at-2.result }) (Changed c.args.id c.change_node-change.result) (state_of c.self.inside.nodes c.self.inside.frame) c.args.edit.now.value
carried c =
    planned-change c.self.inside.nodes c.self.inside.frame c.self.invariant c.args.id c.args.change c.change_node-change.new.nodes (record c.self.inside.frame { sums = sums_more c.without-others.result c.sums_at-2.result }) c.change_node-change.result
    c.change_node-change.ensures.changed c.change_node-change.ensures.had
    (ap (λ sums. sums_more sums c.sums_at-2.result) (c.without-others.ensures ∙ ap (sums_less c.self.inside.frame.sums) (c.sums_at.ensures ∙ ap sums_at c.find.ensures))
    ∙ ap (sums_more (sums_less c.self.inside.frame.sums (sums_at (node_with c.self.inside.nodes.nodes c.args.id)))) (c.sums_at-2.ensures ∙ ap sums_at c.find-2.ensures))
    refl refl refl
    c.args.edit.now.value (subst (λ (page : TreeState). IsPlanned (ChangeNode c.args.id c.args.change) c.args.edit.now.value page) (sym c.self.view_is) c.requires)

pub with-self-inside-requires-clause-boxes : goal.with-self-inside-requires-clause-boxes
with-self-inside-requires-clause-boxes c = let counted = (carried c).means.counted in omega (arith, ap (λ (sums : Sums). sums.boxes) counted.sums_are, counted.kept.valid.boxes)

pub with-self-inside-requires-clause-vertices : goal.with-self-inside-requires-clause-vertices
with-self-inside-requires-clause-vertices c = let counted = (carried c).means.counted in omega (arith, ap (λ (sums : Sums). sums.vertices) counted.sums_are, counted.kept.valid.vertices)

carried_so : (c : goal.After-self-1) → Carries c.change_node-change.new.nodes (record c.self.inside.frame { sums = c.with-self-inside.result }) (Changed c.args.id c.change_node-change.result) (state_of c.self.inside.nodes c.self.inside.frame) c.args.edit.now.value
carried_so c =
    planned-change c.self.inside.nodes c.self.inside.frame c.self.invariant c.args.id c.args.change c.change_node-change.new.nodes (record c.self.inside.frame { sums = c.with-self-inside.result }) c.change_node-change.result
    c.change_node-change.ensures.changed c.change_node-change.ensures.had
    (c.with-self-inside.ensures
    ∙ ap (λ sums. sums_more sums c.sums_at-2.result) (c.without-others.ensures ∙ ap (sums_less c.self.inside.frame.sums) (c.sums_at.ensures ∙ ap sums_at c.find.ensures))
    ∙ ap (sums_more (sums_less c.self.inside.frame.sums (sums_at (node_with c.self.inside.nodes.nodes c.args.id)))) (c.sums_at-2.ensures ∙ ap sums_at c.find-2.ensures))
    refl refl refl
    c.args.edit.now.value (subst (λ (page : TreeState). IsPlanned (ChangeNode c.args.id c.args.change) c.args.edit.now.value page) (sym c.self.view_is) c.requires)

pub invariant_of-self : goal.invariant_of-self
invariant_of-self c = (carried_so c).means.counted

pub returns-clause-contents : goal.returns-clause-contents
returns-clause-contents c = (carried_so c).means.is ∙ ap (λ (page : TreeState). edited page.contents c.args.edit.now.value) c.self.view_is

pub returns-clause-room : goal.returns-clause-room
returns-clause-room c = c.change_node-change.ensures.changed.same_room.room ∙ ap (λ (page : TreeState). page.room) c.self.view_is

pub returns-clause-taken : goal.returns-clause-taken
returns-clause-taken c = taken_as _ _ _ _ _ _ c.self.view_is (carried_so c)

pub returns-clause-answer : goal.returns-clause-answer
returns-clause-answer c = (carried_so c).answer_is ∙ ap (λ (page : TreeState). answer_of page.contents c.args.edit.now.value) c.self.view_is

pub returns-clause-seen : goal.returns-clause-seen
returns-clause-seen c = λ k.
    ap seen_of (sym ((carried_so c).means.counted.kept.looked_up k) ∙ c.change_node-change.ensures.changed.looked_up k
    ∙ ap (changed_at c.args.id (with_label (changed c.args.change)) k) (c.self.invariant.kept.looked_up k ∙ ap (λ (page : TreeState). node_of page.contents k) c.self.view_is))
