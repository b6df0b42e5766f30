use Rattle.std.proofs.Common.{◌≡◌, w64, Ok}
use mir.Val.{to_z, of_z}
use Rattle.script_lines.specs.declared.command.Command.TheVariants.{Hit}
use Rattle.hit_script.proofs.CountLaws.{gained_as}
use Rattle.hit_script.proofs.Limits.{coordinate_kept}
use Rattle.hit_script.proofs.TurnLaws.{askable}
use Rattle.hit_script.proofs.load.count_command.Goals as goal

pub returns-in-Ok-Hit-clause-counted : goal.returns-in-Ok-Hit-clause-counted
returns-in-Ok-Hit-clause-counted g c =
    let is : c.args.asked ≡ Ok (Hit c.in-Ok-Hit.x c.in-Ok-Hit.y) = cc in
    let within = askable c.args.asked (Hit c.in-Ok-Hit.x c.in-Ok-Hit.y) c.requires.askable is in
    let x_is : to_z w64 (of_z w64 c.in-Ok-Hit.x) ≡ c.in-Ok-Hit.x = coordinate_kept c.in-Ok-Hit.x within.0 in
    let y_is : to_z w64 (of_z w64 c.in-Ok-Hit.y) ≡ c.in-Ok-Hit.y = coordinate_kept c.in-Ok-Hit.y within.1 in
    gained_as c.count_hit.result c.args.asked (Ok (Hit c.in-Ok-Hit.x c.in-Ok-Hit.y)) _ _ _ _ is (rw (x_is, y_is) at c.count_hit.ensures.counted)
