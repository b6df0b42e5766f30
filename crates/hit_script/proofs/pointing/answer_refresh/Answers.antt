use Rattle.std.proofs.Common.{◌≡◌, w64, sym}
use mir.Val.{to_z, of_z}
use Rattle.hit_script.specs.Answered.{known}
use Rattle.hit_script.proofs.Limits.{coordinate_kept}
use Rattle.hit_script.proofs.TurnLaws.{refreshed, spot_within}
use Rattle.hit_script.proofs.pointing.answer_refresh.Goals as goal

pub returns-clause-reply : goal.returns-clause-reply
returns-clause-reply g c =
    let within = spot_within c.args.pointer.now c.in-Some.x c.in-Some.y c.requires.spot (sym c.in-Some.ensures) in
    let x_is : to_z w64 (of_z w64 c.in-Some.x) ≡ c.in-Some.x = coordinate_kept c.in-Some.x within.0 in
    let y_is : to_z w64 (of_z w64 c.in-Some.y) ≡ c.in-Some.y = coordinate_kept c.in-Some.y within.1 in
    refreshed c.answer_turn.result c.in-Some.x c.in-Some.y (g.D.Desk.page c.args.desk.now) (g.D.Desk.log c.args.desk.now) c.args.pointer.now
    (known (g.D.Desk.page c.answer_turn.new.desk) (g.D.Desk.log c.answer_turn.new.desk) c.answer_turn.new.pointer) c.args.out.now.items c.answer_turn.new.out.items
    (sym c.in-Some.ensures) (rw (x_is, y_is) at c.answer_turn.ensures.reply)
