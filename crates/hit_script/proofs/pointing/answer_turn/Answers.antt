use Rattle.std.proofs.Common.{◌≡◌, w64, length, refl, ap, ◌∙◌}
use mir.Val.{to_z, of_z}
use Rattle.hit_script.proofs.Limits.{coordinate_kept}
use Rattle.hit_script.proofs.Logs.{grows_both, grows_by}
use Rattle.hit_script.proofs.TurnLaws.{turned}
use Rattle.hit_script.proofs.pointing.answer_turn.Goals as goal

pub returns-in_err-alive-clause-log : goal.returns-in_err-alive-clause-log
returns-in_err-alive-clause-log g c =
    grows_both (grows_by c.top-target.ensures.logged) (grows_both c.chain_of_some-members.ensures.grows c.living.ensures.grows)

pub returns-clause-log : goal.returns-clause-log
returns-clause-log g c =
    grows_both (grows_by c.top-target.ensures.logged) (grows_both c.chain_of_some-members.ensures.grows c.living.ensures.grows)

pub returns-clause-reply : goal.returns-clause-reply
returns-clause-reply g c =
    let x_is : to_z w64 (of_z w64 c.args.turn.x) ≡ c.args.turn.x = coordinate_kept c.args.turn.x c.requires.x in
    let y_is : to_z w64 (of_z w64 c.args.turn.y) ≡ c.args.turn.y = coordinate_kept c.args.turn.y c.requires.y in
    let page1 = c.top-target.ensures.same in
    let page2 = c.chain_of_some-members.ensures.same ∙ page1 in
    let kept = c.chain.ensures.chain in
    turned c.print_turn.result _ _ _ _ _ _ _ _ _ _ _ _ _ _ _ _
    c.requires.spot
    c.print_turn.ensures.spot
    c.print_turn.ensures.chain
    (c.living.ensures.same ∙ page2)
    (rw (x_is, y_is) at c.top-target.ensures.element)
    (rw page1 at c.chain_of_some-members.ensures.chain)
    (rw (page2, kept) at c.in_ok-alive.ensures.alive)
    c.chain_of_some-members.ensures.none
    (c.in_ok-alive.ensures.count ∙ ap length kept)
    (rw (x_is, y_is) at c.top-target.ensures.logged)
    c.chain_of_some-members.ensures.logged
    (rw kept at c.in_ok-alive.ensures.logged)
    (rw c.deref.ensures.value at c.print_turn.ensures.reply)

pub top-target-requires-clause-x : goal.top-target-requires-clause-x
top-target-requires-clause-x g c = rw (coordinate_kept c.args.turn.x c.requires.x) c.requires.x

pub top-target-requires-clause-y : goal.top-target-requires-clause-y
top-target-requires-clause-y g c = rw (coordinate_kept c.args.turn.y c.requires.y) c.requires.y

pub returns-in_err-alive-clause-spot : goal.returns-in_err-alive-clause-spot
returns-in_err-alive-clause-spot g c = refl

pub print_turn-requires-clause-short : goal.print_turn-requires-clause-short
print_turn-requires-clause-short g c = c.chain_of_some-members.ensures.short

pub print_turn-requires-clause-flags : goal.print_turn-requires-clause-flags
print_turn-requires-clause-flags g c = ap length c.deref.ensures.value ∙ c.in_ok-alive.ensures.count ∙ ap length c.chain.ensures.chain

pub returns-clause-spot : goal.returns-clause-spot
returns-clause-spot g c = c.print_turn.ensures.spot
