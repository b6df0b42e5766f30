-- A number that passes the test is put behind those at the front.
use Rattle.std.proofs.Common.{◌≡◌, ◌<◌, length, get_or, sym, ◌∙◌, to_z, of_z, w64, arith}
use Rattle.std.proofs.lemmas.List.{get_or_default}
use Rattle.std.proofs.lemmas.List.Filters.{FiltersInPlace-more_no, FiltersInPlace-more_set}
use Rattle.point_query.specs.Near.{is_held}
use Rattle.point_query.proofs.candidates.keep_held.Goals as goal
use Rattle.point_query.proofs.candidates.keep_held.Goals.{then-is_held, else-is_held}

pub loop-at-preserved : goal.loop-at-preserved
loop-at-preserved c =
    let p = is_held c.args.bounds.now (to_z w64 (of_z w64 c.args.x)) (to_z w64 (of_z w64 c.args.y)) in
    let l = c.loop-at in
    let x = get_or l.numbers l.at 0 in
    let within : l.at < length l.numbers = omega (arith, c.loop-at-test.true, l.auto.numbers) in
    let read : x ≡ get_or l.numbers l.at x = get_or_default l.numbers l.at 0 x within in
    elim c.if-is_held.branch [
      | then-is_held w ↦
          rw (w.numbers-is, w.kept-is) (FiltersInPlace-more_set {p = p} l.invariant within (sym c.is_held.ensures ∙ w.if-is_held.true) read)
      | else-is_held w ↦
          rw (w.numbers-is, w.kept-is) (FiltersInPlace-more_no {p = p} l.invariant within (sym c.is_held.ensures ∙ w.if-is_held.false) read)
    ]
