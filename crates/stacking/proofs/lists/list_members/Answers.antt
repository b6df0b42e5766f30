-- One member after another.
use Rattle.std.proofs.Common.{refl, sym, ap, ◌++◌, ◌∙◌, true, false, pos, map, Vec, Global}
use Rattle.std.proofs.lemmas.List.{append-nil}
use Rattle.paint_order.specs.declared.entry.Entry.{Entry}
use Rattle.box_tree.specs.Forest.{Placed}
use Rattle.stacking.specs.declared.members.Member.{Member}
use Rattle.stacking.specs.Painting.{listed_member, context_members}
use Rattle.stacking.specs.OnPage.{of_node, member_of, is_on_side, on_side}
use Rattle.stacking.specs.Lists.{numbered}
use Rattle.stacking.proofs.NextLemmas.{IsFoundBelow, levels, each_member, nth, walk-some, walk-some_all, there, member-lists}
use Rattle.stacking.proofs.lists.list_members.Goals as goal
use Rattle.stacking.proofs.lists.list_members.Goals.{then-is_on_side+in_ok-list_member, else-is_on_side}

pub loop-member-init : goal.loop-member-init
loop-member-init c = refl

pub list_member-requires : goal.list_member-requires
list_member-requires c =
    let page = c.args.page.now.contents in
    let none : Member = record { level = pos 0; node = 0; is_context = false } in
    let next = nth (IsFoundBelow page (levels page c.args.id)) member_of (of_node context_members page c.args.id) c.args.members.now c.loop-member.member-index (each_member page c.requires.valid c.args.id) c.requires.members c.loop-member-test.true in
    record { valid = c.requires.valid; there = there page (levels page c.args.id) next.element next.holds _ (ap (λ (m : Member). m.node) (next.is none)) }

pub loop-member-preserved : goal.loop-member-preserved
loop-member-preserved c =
    let page = c.args.page.now.contents in
    let none : Member = record { level = pos 0; node = 0; is_context = false } in
    let gives = λ (m : Placed). map (numbered c.args.page.now.items) (listed_member m) in
    let next = nth (IsFoundBelow page (levels page c.args.id)) member_of (of_node context_members page c.args.id) c.args.members.now c.loop-member.member-index (each_member page c.requires.valid c.args.id) c.requires.members c.loop-member-test.true in
    let side_is = c.is_on_side.ensures ∙ ap (λ (m : Member). is_on_side c.args.side m.level) (next.is none) in
    let items_of = λ (v : Vec Entry Global). v.items in
    elim c.if-is_on_side.branch [
      | then-is_on_side+in_ok-list_member w ↦
          walk-some gives (on_side c.args.side) (of_node context_members page c.args.id) c.loop-member.member-index next.element true c.loop-member.list.items c.if-is_on_side.list.items _ (sym w.if-is_on_side.true ∙ side_is) next.left
          (ap items_of w.list-is ∙ w.in_ok-list_member.ensures ∙ ap (λ xs. c.loop-member.list.items ++ map (numbered c.args.page.now.items) xs) (member-lists page (levels page c.args.id) next.element _ next.holds (next.is none))) c.loop-member.invariant
      | else-is_on_side w ↦
          walk-some gives (on_side c.args.side) (of_node context_members page c.args.id) c.loop-member.member-index next.element false c.loop-member.list.items c.if-is_on_side.list.items _ (sym w.if-is_on_side.false ∙ side_is) next.left
          (ap items_of w.list-is ∙ sym (append-nil c.loop-member.list.items)) c.loop-member.invariant
    ]

pub returns : goal.returns
returns c = walk-some_all (λ m. map (numbered c.args.page.now.items) (listed_member m)) (on_side c.args.side) member_of (of_node context_members c.args.page.now.contents c.args.id) c.args.members.now c.loop-member.member-index c.loop-member.list.items _ c.requires.members c.loop-member-test.false c.loop-member.invariant
