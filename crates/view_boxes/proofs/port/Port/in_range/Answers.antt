-- The viewport and the viewBox are as the two tests say.
use Rattle.std.proofs.Common.{rules}
use Rattle.std.proofs.lemmas.Int.{to_z-of_z}
use mir.Syntax.{w64}
use mir.Val.{SFits}
use Rattle.view_boxes.proofs.port.Port.in_range.Goals as goal

pub returns-then-is_box_in_range : goal.returns-then-is_box_in_range
returns-then-is_box_in_range c =
    let x_fits : SFits w64 c.args.self.now.x = search rules in
    let y_fits : SFits w64 c.args.self.now.y = search rules in
    let w_fits : SFits w64 c.args.self.now.w = search rules in
    let h_fits : SFits w64 c.args.self.now.h = search rules in
    let box = simp to_z-of_z at (c.if-is_box_in_range.ensures.0 (search rules)) in
    let view = c.is_view_in_range.ensures in
    (λ test. record { box = box; view = view.0 test }, λ range. view.1 range.view)
