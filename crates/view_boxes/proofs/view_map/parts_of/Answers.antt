use Rattle.std.proofs.Common.{◌≡◌, ◌∙◌, ap, sym, rules}
use Rattle.std.specs.Prelude.{Some}
use Rattle.std.specs.Int.{w64}
use Rattle.std.proofs.lemmas.Int.{to_z-of_z}
use mir.Val.{SFits}
use Rattle.view_boxes.specs.Views.{parts_of}
use Rattle.view_boxes.proofs.view_map.parts_of.Goals as goal

pub returns-in-Some-clause-value : goal.returns-in-Some-clause-value
returns-in-Some-clause-value c =
    let port = c.args.port.now in
    let x_fits : SFits w64 c.args.port.now.x = search rules in
    let y_fits : SFits w64 c.args.port.now.y = search rules in
    let parts : c.parts_of_view.result ≡ parts_of port.x port.y c.args.w c.args.h (Some c.in-Some.view) =
    rw (to_z-of_z w64 port.x x_fits, to_z-of_z w64 port.y y_fits, to_z-of_z w64 c.args.w c.ranges.w, to_z-of_z w64 c.args.h c.ranges.h)
    at c.parts_of_view.ensures.value
    in
    parts ∙ ap (parts_of port.x port.y c.args.w c.args.h) (sym c.in-Some.is)
