-- Each list that a node had can be had again.
use Rattle.std.proofs.Common.{sym, ◌∙◌, subst}
use Rattle.std.specs.Prelude.{IfSome}
use Rattle.box_tree.specs.declared.items.Earlier.{Earlier}
use Rattle.box_tree.specs.Touched.{CanTouch}
use Rattle.box_tree.proofs.FollowLemmas.{LeadsBack, leads_back_none, leads_back_so, leads_back_resized, leads_back_as}
use Rattle.box_tree.proofs.page.numbers.renumber.Goals.{in-Some, in_default, in-RemoveNodes, in_default-plan}
use Rattle.box_tree.proofs.page.numbers.renumber.Goals as goal

leads : (c : goal.Joined-drop) → LeadsBack c.args.items.now.items c.match-touched_node.earlier.items c.match-touched_node.items.items
leads c = elim c.match-touched_node.branch [
  | in-Some w ↦
      let e : Earlier = record { id = w.in-Some.node.id; list = w.resize-had.result } in
      let can : CanTouch c.args.items.now.items c.args.items.now.room c.args.spare w.in-Some.node = subst (λ o. IfSome o (CanTouch c.args.items.now.items c.args.items.now.room c.args.spare)) (sym w.in-Some.ensures) c.requires.touch in
      leads_back_as c.args.items.now.items w.push_reserved.new.self c.match-touched_node.earlier w.resize-had.new.self c.match-touched_node.items w.earlier-is w.items-is
      (leads_back_resized w.in-Some.node.kind w.in-Some.node.count c.args.items.now.items w.resize-had.new.self.items c.args.spare.earlier.items w.push_reserved.new.self.items e can.placed w.resize-had.ensures.had w.resize-had.ensures.resized c.requires.earlier_none w.push_reserved.ensures.items)
  | in_default w ↦ elim w.match-plan.branch [
    | in-RemoveNodes w' ↦
        leads_back_as c.args.items.now.items w'.take_all.new.earlier c.match-touched_node.earlier w'.take_all.new.self c.match-touched_node.items (w.earlier-is ∙ w'.earlier-is) (w.items-is ∙ w'.items-is)
        (leads_back_so c.args.items.now.items w'.take_all.new.earlier.items w'.take_all.new.self.items w'.take_all.ensures.can_go_back w'.take_all.ensures.back)
    | in_default-plan w' ↦
        leads_back_as c.args.items.now.items c.args.spare.earlier c.match-touched_node.earlier c.args.items.now c.match-touched_node.items (w.earlier-is ∙ w'.earlier-is) (w.items-is ∙ w'.items-is)
        (leads_back_none c.args.items.now.items c.args.spare.earlier.items c.requires.earlier_none)
  ]
]

pub returns-clause-can_go_back : goal.returns-clause-can_go_back
returns-clause-can_go_back c = (leads c).can

pub returns-clause-back : goal.returns-clause-back
returns-clause-back c = (leads c).same
