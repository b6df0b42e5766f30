-- The tree is the one that the edit led to, so what it took can go back, and the nodes are then those before it.
use Rattle.std.proofs.Common.{sym, ap, ◌∙◌, subst}
use Rattle.box_tree.specs.TreeState.{TreeState}
use Rattle.box_tree.specs.Taken.{IsTaken}
use Rattle.box_tree.proofs.RevertLemmas.{can_go_back, reverted}
use Rattle.box_tree.proofs.tree.Tree.take_back.Goals as goal

pub put_back-requires : goal.put_back-requires
put_back-requires c = can_go_back c.self.inside.nodes c.self.inside.frame c.self.invariant c.args.taken c.args.frame c.args.before.now.value.contents c.requires.valid c.requires.frame
    (subst (λ (s : TreeState). IsTaken c.args.taken c.args.before.now.value.contents s.contents s.room) (sym c.self.view_is) c.requires.taken)

pub invariant_of-self : goal.invariant_of-self
invariant_of-self c = (
    reverted c.self.inside.nodes c.self.inside.frame c.self.invariant c.args.taken c.args.frame c.args.before.now.value.contents c.requires.valid c.requires.frame
    (subst (λ (s : TreeState). IsTaken c.args.taken c.args.before.now.value.contents s.contents s.room) (sym c.self.view_is) c.requires.taken)
    c.put_back.new.nodes c.put_back.ensures.looked_up c.put_back.ensures.count c.put_back.ensures.same_room
    ).counted

pub returns-clause-contents : goal.returns-clause-contents
returns-clause-contents c = (
    reverted c.self.inside.nodes c.self.inside.frame c.self.invariant c.args.taken c.args.frame c.args.before.now.value.contents c.requires.valid c.requires.frame
    (subst (λ (s : TreeState). IsTaken c.args.taken c.args.before.now.value.contents s.contents s.room) (sym c.self.view_is) c.requires.taken)
    c.put_back.new.nodes c.put_back.ensures.looked_up c.put_back.ensures.count c.put_back.ensures.same_room
    ).is

pub returns-clause-room : goal.returns-clause-room
returns-clause-room c = c.put_back.ensures.same_room.room ∙ ap (λ (s : TreeState). s.room) c.self.view_is
