use Rattle.std.proofs.Common.{◌≡◌, w64}
use mir.Val.{to_z, of_z}
use Rattle.hit_script.specs.Answered.{known}
use Rattle.hit_script.proofs.Limits.{coordinate_kept}
use Rattle.hit_script.proofs.TurnLaws.{pointed}
use Rattle.hit_script.proofs.pointing.answer_point.Goals as goal

pub returns-clause-reply : goal.returns-clause-reply
returns-clause-reply g c =
    let x_is : to_z w64 (of_z w64 c.args.x) ≡ c.args.x = coordinate_kept c.args.x c.requires.x in
    let y_is : to_z w64 (of_z w64 c.args.y) ≡ c.args.y = coordinate_kept c.args.y c.requires.y in
    pointed c.answer_turn.result c.args.x c.args.y (g.D.Desk.page c.args.desk.now) (g.D.Desk.log c.args.desk.now) c.args.pointer.now c.set_spot.new.self
    (known (g.D.Desk.page c.answer_turn.new.desk) (g.D.Desk.log c.answer_turn.new.desk) c.answer_turn.new.pointer) c.args.out.now.items c.answer_turn.new.out.items
    c.set_spot.ensures.chain (rw (x_is, y_is) at c.answer_turn.ensures.reply)
