-- The new node and its parent's children make the nodes of the edited page, by the lemma on a planned add.
use Rattle.std.proofs.Common.{◌+◌, sym, ap, ◌∙◌, subst, arith}
use Rattle.box_tree.specs.declared.plan.Plan.TheVariants.{AddNode}
use Rattle.box_tree.specs.declared.plan.Taken.TheVariants.{Added}
use Rattle.box_tree.specs.Edited.{edited, answer_of}
use Rattle.box_tree.specs.TreeState.{TreeState}
use Rattle.box_tree.specs.Planned.{IsPlanned}
use Rattle.box_tree.proofs.PlanLemmas.{state_of, Carries, taken_as, CanAdd, may_give, can_add, planned-add}
use Rattle.box_tree.specs.Contents.{node_of}
use Rattle.box_tree.specs.Kept.{node_with}
use Rattle.box_tree.specs.Touched.{seen_of}
use Rattle.box_tree.proofs.SeenLemmas.{seen-child_at, seen-added}
use Rattle.box_tree.proofs.tree.Tree.add.Goals as goal

pub give_child-requires : goal.give_child-requires
give_child-requires c = may_give c.self.inside.nodes c.self.inside.frame c.self.invariant c.args.node c.args.place c.args.spare c.args.edit.now.value (subst (λ (page : TreeState). IsPlanned (AddNode c.args.node c.args.place c.args.spare) c.args.edit.now.value page) (sym c.self.view_is) c.requires)

pub frame_with-self-inside-requires-clause-boxes : goal.frame_with-self-inside-requires-clause-boxes
frame_with-self-inside-requires-clause-boxes c = omega (
  arith,
  c.count.ensures,
  (can_add c.self.inside.nodes c.self.inside.frame c.self.invariant c.args.node c.args.place c.args.spare c.args.edit.now.value c.give_child.new.nodes
      (subst (λ (page : TreeState). IsPlanned (AddNode c.args.node c.args.place c.args.spare) c.args.edit.now.value page) (sym c.self.view_is) c.requires) c.give_child.ensures).boxes,
)

can : (c : goal.After-put-arg-1) → CanAdd c.self.inside.nodes c.self.inside.frame c.self.invariant c.args.node c.args.place c.args.spare c.give_child.new.nodes
can c = can_add c.self.inside.nodes c.self.inside.frame c.self.invariant c.args.node c.args.place c.args.spare c.args.edit.now.value c.give_child.new.nodes
    (subst (λ (page : TreeState). IsPlanned (AddNode c.args.node c.args.place c.args.spare) c.args.edit.now.value page) (sym c.self.view_is) c.requires) c.give_child.ensures

pub put-requires-clause-absent : goal.put-requires-clause-absent
put-requires-clause-absent c = (can c).absent

pub put-requires-clause-fits : goal.put-requires-clause-fits
put-requires-clause-fits c = (can c).fits

pub put-requires-clause-placed : goal.put-requires-clause-placed
put-requires-clause-placed c = (can c).placed

carried : (c : goal.After-put) → Carries c.put.new.self c.frame_with-self-inside.result (Added c.args.node.id c.args.node.parent c.args.place) (state_of c.self.inside.nodes c.self.inside.frame) c.args.edit.now.value
carried c =
    let put = c.put.ensures in
    let frame = c.frame_with-self-inside.ensures in
    planned-add c.self.inside.nodes c.self.inside.frame c.self.invariant c.args.node c.args.place c.args.spare c.args.edit.now.value c.give_child.new.nodes c.put.new.self c.frame_with-self-inside.result
    (subst (λ (page : TreeState). IsPlanned (AddNode c.args.node c.args.place c.args.spare) c.args.edit.now.value page) (sym c.self.view_is) c.requires)
    c.give_child.ensures put.looked_up put.count put.room put.ids
    (frame.boxes ∙ ap (λ count. count + c.self.inside.frame.sums.boxes) c.count.ensures) frame.vertices frame.root frame.viewport frame.next

pub invariant_of-self : goal.invariant_of-self
invariant_of-self c = (carried c).means.counted

pub returns-clause-contents : goal.returns-clause-contents
returns-clause-contents c = (carried c).means.is ∙ ap (λ (page : TreeState). edited page.contents c.args.edit.now.value) c.self.view_is

pub returns-clause-room : goal.returns-clause-room
returns-clause-room c = c.put.ensures.room ∙ c.give_child.ensures.same_room.room ∙ ap (λ (page : TreeState). page.room) c.self.view_is

pub returns-clause-taken : goal.returns-clause-taken
returns-clause-taken c = taken_as _ _ _ _ _ _ c.self.view_is (carried c)

pub returns-clause-answer : goal.returns-clause-answer
returns-clause-answer c = (carried c).answer_is ∙ ap (λ (page : TreeState). answer_of page.contents c.args.edit.now.value) c.self.view_is

pub returns-clause-seen : goal.returns-clause-seen
returns-clause-seen c = λ k.
    let given = c.give_child.new.nodes.nodes in
    let had = c.self.inside.nodes.nodes in
    ap seen_of (sym ((carried c).means.counted.kept.looked_up k) ∙ c.put.ensures.looked_up k)
    ∙ seen-added c.args.node k (node_of c.args.self.now.contents k) (node_with given k)
    (ap seen_of (c.give_child.ensures.looked_up k) ∙ seen-child_at c.args.node.parent c.args.place c.args.node.id k (node_with had k) ∙ ap seen_of (c.self.invariant.kept.looked_up k ∙ ap (λ (page : TreeState). node_of page.contents k) c.self.view_is))
