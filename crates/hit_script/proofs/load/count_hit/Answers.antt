use Rattle.std.proofs.Common.{◌≡◌, w64}
use mir.Val.{to_z, of_z}
use Rattle.hit_script.proofs.CountLaws.{hit_gained}
use Rattle.hit_script.proofs.Limits.{coordinate_kept}
use Rattle.hit_script.proofs.load.count_hit.Goals as goal

pub returns-clause-counted : goal.returns-clause-counted
returns-clause-counted g c =
    let desk = c.hit-ids.ensures in
    let x_is : to_z w64 (of_z w64 c.args.x) ≡ c.args.x = coordinate_kept c.args.x c.requires.x in
    let y_is : to_z w64 (of_z w64 c.args.y) ≡ c.args.y = coordinate_kept c.args.y c.requires.y in
    hit_gained c.count_members.result c.args.x c.args.y c.hit-ids.result.now _ _ _ _ _ _ c.count_members.ensures (rw (x_is, y_is) at desk.elements) desk.same (rw (x_is, y_is) at desk.logged)
