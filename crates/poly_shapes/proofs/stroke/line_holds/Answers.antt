use Rattle.std.proofs.Common.{arith, ap, sym, ◌∙◌, drop, get_or, pos, ◌+◌}
use Rattle.poly_shapes.specs.declared.point.Point.{Point}
use Rattle.poly_shapes.specs.Segments.{IsPlaced}
use Rattle.poly_shapes.specs.Stroke.{lines_from, line_holds}
use Rattle.poly_shapes.proofs.StrokeLemmas.{segment, lines-kept, lines-dropped, line_holds-rest, line_holds-first}
use Rattle.poly_shapes.proofs.stroke.line_holds.Goals.{then-has_length+else-holds, else-has_length}
use Rattle.poly_shapes.proofs.stroke.line_holds.Goals as goal

pub returns-then-holds : goal.returns-then-holds
returns-then-holds c =
    let none : Point = record { x = pos 0; y = pos 0 } in
    let points = c.args.points.now in
    let to = get_or points c.loop-to.to-index none in
    let s = segment c.loop-to.from to in
    let rest = lines_from to (drop (c.loop-to.to-index + 1) points) in
    sym (sym c.loop-to.invariant.same
    ∙ ap (line_holds c.loop-to.joined c.args.width c.args.at.x c.args.at.y)
    (lines-kept c.loop-to.from points c.loop-to.to-index none (omega arith) (sym c.has_length.ensures ∙ c.if-has_length.true))
    ∙ line_holds-first c.loop-to.joined c.args.width c.args.at.x c.args.at.y s rest (sym c.holds.ensures ∙ c.if-holds.true))

pub loop-to-preserved : goal.loop-to-preserved
loop-to-preserved c =
    let none : Point = record { x = pos 0; y = pos 0 } in
    let points = c.args.points.now in
    let to = get_or points c.loop-to.to-index none in
    let s = segment c.loop-to.from to in
    let rest = lines_from to (drop (c.loop-to.to-index + 1) points) in
    record {
      placed = let h : IsPlaced to = c.requires.points c.loop-to.to-index none (omega arith) in
          elim c.if-has_length.branch [ then-has_length+else-holds w ↦ rw w.from-is h | else-has_length w ↦ rw w.from-is h ];
      same = elim c.if-has_length.branch [
        | then-has_length+else-holds w ↦ rw (w.joined-is, w.from-is)
            (sym (ap (line_holds c.loop-to.joined c.args.width c.args.at.x c.args.at.y)
            (lines-kept c.loop-to.from points c.loop-to.to-index none (omega arith) (sym c.has_length.ensures ∙ w.if-has_length.true))
            ∙ line_holds-rest c.loop-to.joined c.args.width c.args.at.x c.args.at.y s rest (sym w.holds.ensures ∙ w.if-holds.false))
            ∙ c.loop-to.invariant.same)
        | else-has_length w ↦ rw (w.joined-is, w.from-is)
            (sym (ap (line_holds c.loop-to.joined c.args.width c.args.at.x c.args.at.y)
            (lines-dropped c.loop-to.from points c.loop-to.to-index none (omega arith) (sym c.has_length.ensures ∙ w.if-has_length.false)))
            ∙ c.loop-to.invariant.same)
      ];
    }
