use Rattle.std.proofs.Common.{◌≡◌, w64, Ok, Err, refl}
use mir.Val.{to_z, of_z}
use Rattle.script_lines.specs.declared.command.Command.TheVariants.{Edit, Hit, Top, Point, Refresh}
use Rattle.hit_script.proofs.Limits.{coordinate_kept}
use Rattle.hit_script.proofs.TurnLaws.{askable, asked_as, replied_beside, replied_fault}
use Rattle.hit_script.proofs.answers.answer_command.Goals as goal

pub returns-in-Ok-Edit-clause-reply : goal.returns-in-Ok-Edit-clause-reply
returns-in-Ok-Edit-clause-reply g c =
    let is : c.args.asked ≡ Ok (Edit c.in-Ok-Edit.edit) = cc in
    asked_as c.answer_edit.result c.args.asked (Ok (Edit c.in-Ok-Edit.edit)) _ _ _ _ is
    (replied_beside c.answer_edit.result (Ok (Edit c.in-Ok-Edit.edit)) c.args.pointer.now _ _ _ _ _ _ (λ was. refl) (c.answer_edit.ensures.reply c.args.pointer.now))

pub returns-in-Ok-Hit-clause-reply : goal.returns-in-Ok-Hit-clause-reply
returns-in-Ok-Hit-clause-reply g c =
    let is : c.args.asked ≡ Ok (Hit c.in-Ok-Hit.x c.in-Ok-Hit.y) = cc in
    let within = askable c.args.asked (Hit c.in-Ok-Hit.x c.in-Ok-Hit.y) c.requires.askable is in
    let x_is : to_z w64 (of_z w64 c.in-Ok-Hit.x) ≡ c.in-Ok-Hit.x = coordinate_kept c.in-Ok-Hit.x within.0 in
    let y_is : to_z w64 (of_z w64 c.in-Ok-Hit.y) ≡ c.in-Ok-Hit.y = coordinate_kept c.in-Ok-Hit.y within.1 in
    asked_as c.answer_hit.result c.args.asked (Ok (Hit c.in-Ok-Hit.x c.in-Ok-Hit.y)) _ _ _ _ is
    (replied_beside c.answer_hit.result (Ok (Hit c.in-Ok-Hit.x c.in-Ok-Hit.y)) c.args.pointer.now _ _ _ _ _ _ (λ was. refl) (rw (x_is, y_is) at (c.answer_hit.ensures.reply c.args.pointer.now)))

pub returns-in-Ok-Top-clause-reply : goal.returns-in-Ok-Top-clause-reply
returns-in-Ok-Top-clause-reply g c =
    let is : c.args.asked ≡ Ok (Top c.in-Ok-Top.x c.in-Ok-Top.y) = cc in
    let within = askable c.args.asked (Top c.in-Ok-Top.x c.in-Ok-Top.y) c.requires.askable is in
    let x_is : to_z w64 (of_z w64 c.in-Ok-Top.x) ≡ c.in-Ok-Top.x = coordinate_kept c.in-Ok-Top.x within.0 in
    let y_is : to_z w64 (of_z w64 c.in-Ok-Top.y) ≡ c.in-Ok-Top.y = coordinate_kept c.in-Ok-Top.y within.1 in
    asked_as c.answer_top.result c.args.asked (Ok (Top c.in-Ok-Top.x c.in-Ok-Top.y)) _ _ _ _ is
    (replied_beside c.answer_top.result (Ok (Top c.in-Ok-Top.x c.in-Ok-Top.y)) c.args.pointer.now _ _ _ _ _ _ (λ was. refl) (rw (x_is, y_is) at (c.answer_top.ensures.reply c.args.pointer.now)))

pub returns-in-Ok-Point-clause-reply : goal.returns-in-Ok-Point-clause-reply
returns-in-Ok-Point-clause-reply g c =
    let is : c.args.asked ≡ Ok (Point c.in-Ok-Point.x c.in-Ok-Point.y) = cc in
    let within = askable c.args.asked (Point c.in-Ok-Point.x c.in-Ok-Point.y) c.requires.askable is in
    let x_is : to_z w64 (of_z w64 c.in-Ok-Point.x) ≡ c.in-Ok-Point.x = coordinate_kept c.in-Ok-Point.x within.0 in
    let y_is : to_z w64 (of_z w64 c.in-Ok-Point.y) ≡ c.in-Ok-Point.y = coordinate_kept c.in-Ok-Point.y within.1 in
    asked_as c.answer_point.result c.args.asked (Ok (Point c.in-Ok-Point.x c.in-Ok-Point.y)) _ _ _ _ is
    (rw (x_is, y_is) at c.answer_point.ensures.reply)

pub returns-in-Ok-Refresh-clause-reply : goal.returns-in-Ok-Refresh-clause-reply
returns-in-Ok-Refresh-clause-reply g c =
    let is : c.args.asked ≡ Ok Refresh = cc in
    asked_as c.answer_refresh.result c.args.asked (Ok Refresh) _ _ _ _ is c.answer_refresh.ensures.reply

pub returns-in-Err-clause-reply : goal.returns-in-Err-clause-reply
returns-in-Err-clause-reply g c =
    let is : c.args.asked ≡ Err c.in-Err.why = cc in
    asked_as c.answer_fault.result c.args.asked (Err c.in-Err.why) _ _ _ _ is
    (replied_fault c.answer_fault.result c.in-Err.why _ _ _ c.answer_fault.ensures.reply)
