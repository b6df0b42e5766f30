use Rattle.std.proofs.Common.{rules}
use Rattle.std.proofs.lemmas.Int.{to_z-of_z}
use mir.Syntax.{w64}
use mir.Val.{SFits}
use Rattle.view_boxes.proofs.port.ViewBox.in_range.Goals as goal

pub returns : goal.returns
returns c =
    let x_fits : SFits w64 c.args.self.now.x = search rules in
    let y_fits : SFits w64 c.args.self.now.y = search rules in
    let w_fits : SFits w64 c.args.self.now.w = search rules in
    let h_fits : SFits w64 c.args.self.now.h = search rules in
    simp to_z-of_z at c.is_box_in_range.ensures
