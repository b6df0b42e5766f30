-- The two spans are those of the box.
use Rattle.std.proofs.Common.{rules}
use Rattle.std.proofs.lemmas.Int.{to_z-of_z}
use mir.Syntax.{w64}
use mir.Val.{SFits}
use Rattle.box_tree.proofs.piece.Piece.in_range.Goals as goal

pub returns-then-is_span_in_range : goal.returns-then-is_span_in_range
returns-then-is_span_in_range c =
    let l_fits : SFits w64 c.args.self.now.l = search rules in
    let w_fits : SFits w64 c.args.self.now.w = search rules in
    let t_fits : SFits w64 c.args.self.now.t = search rules in
    let h_fits : SFits w64 c.args.self.now.h = search rules in
    let across = simp to_z-of_z at (c.if-is_span_in_range.ensures.0 (search rules)) in
    let down = simp to_z-of_z at c.is_span_in_range-then-is_span_in_range.ensures in
    (λ test. record { across = across; down = down.0 test }, λ range. down.1 range.down)
