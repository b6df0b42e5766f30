-- The walk: a child itself where it is a member, then what is below it unless it is a stacking context, and then the
-- other children.
use Rattle.std.proofs.Common.{refl, true, false, sym, ap, ◌∙◌, arith, Vec, Global}
use Rattle.std.proofs.lemmas.List.{append-nil}
use Rattle.stacking.specs.declared.members.Member.{Member}
use Rattle.stacking.specs.OnPage.{members_of}
use Rattle.stacking.proofs.GatherLemmas.{there, deeper, not_deepest, members-more, gathered-all}
use Rattle.stacking.proofs.members.+push_below.Goals as goal
use Rattle.stacking.proofs.members.+push_below.Goals.{then-not-keeps_members+in_ok-push_below, else-not-keeps_members}

pub loop-child-init : goal.loop-child-init
loop-child-init t c = refl

pub read-inner-requires : goal.read-inner-requires
read-inner-requires t c = there c.args.page.now.contents c.requires.valid c.args.id c.read-node.result.now c.read-node.ensures c.as_slice-child-items.result.now c.as_slice-child-items.ensures c.loop-child.child-index c.loop-child-test.true

pub push_below-requires : goal.push_below-requires
push_below-requires t c =
    let page = c.args.page.now.contents in
    let deep = deeper page c.requires.valid c.args.id c.read-node.result.now c.read-node.ensures c.as_slice-child-items.result.now c.as_slice-child-items.ensures c.loop-child.child-index c.loop-child-test.true in
    let few = not_deepest page c.requires.valid c.args.id c.read-node.result.now c.read-node.ensures c.as_slice-child-items.result.now c.as_slice-child-items.ensures c.loop-child.child-index c.loop-child-test.true in
    (omega (arith, deep, few), (c.requires.valid, there page c.requires.valid c.args.id c.read-node.result.now c.read-node.ensures c.as_slice-child-items.result.now c.as_slice-child-items.ensures c.loop-child.child-index c.loop-child-test.true))

pub loop-child-preserved : goal.loop-child-preserved
loop-child-preserved t c =
    let page = c.args.page.now.contents in
    let more = members-more page c.requires.valid c.args.id c.read-node.result.now c.read-node.ensures c.as_slice-child-items.result.now c.as_slice-child-items.ensures c.loop-child.child-index c.loop-child-test.true c.read-inner.result.now c.read-inner.ensures in
    let items_of = λ (v : Vec Member Global). v.items in
    elim c.if-not-keeps_members.branch [
      | then-not-keeps_members+in_ok-push_below w ↦ more false (sym w.if-not-keeps_members.true ∙ c.keeps_members.ensures) c.loop-child.members.items c.push_member.new.members.items c.if-not-keeps_members.members.items _ c.in_ok-push_member.ensures (ap items_of w.members-is ∙ w.in_ok-push_below.ensures) c.loop-child.invariant
      | else-not-keeps_members w ↦ more true (sym w.if-not-keeps_members.false ∙ c.keeps_members.ensures) c.loop-child.members.items c.push_member.new.members.items c.if-not-keeps_members.members.items _ c.in_ok-push_member.ensures (ap items_of w.members-is ∙ sym (append-nil c.push_member.new.members.items)) c.loop-child.invariant
    ]

pub returns : goal.returns
returns t c = gathered-all c.args.page.now.contents c.requires.valid c.args.id c.read-node.result.now c.read-node.ensures c.as_slice-child-items.result.now c.as_slice-child-items.ensures c.loop-child.child-index members_of c.loop-child.members.items _ c.loop-child-test.false c.loop-child.invariant
