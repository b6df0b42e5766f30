use Rattle.std.proofs.Common.{◌∙◌, arith}
use Rattle.poly_shapes.proofs.LineLemmas.{line-strokes}
use Rattle.poly_shapes.proofs.line.is_stroked.Goals as goal

pub returns-then-pen-gt0 : goal.returns-then-pen-gt0
returns-then-pen-gt0 c =
    c.subpath_holds.ensures
    ∙ line-strokes c.args.from c.args.to c.args.pen.width c.args.pen.cap c.args.at.x c.args.at.y (omega arith)
