use Rattle.std.proofs.Common.{rules, arith, FitsSigned, ◌≢◌, pos}
use Rattle.std.specs.Int.{w128}
use Rattle.std.proofs.lemmas.Int.{ints, to_z-of_z}
use Rattle.affine.proofs.FloorLemmas.{IsFloor-floor_of, IsFloor-unique}
use Rattle.affine.specs.Point.{floor_of}
use Rattle.affine.proofs.hulls.floor.Goals as goal

pub returns-clause-value : goal.returns-clause-value
returns-clause-value c =
    let n = c.args.n in
    let d = c.args.d in
    let fits : FitsSigned w128 c.floor_div.result = search rules in
    let some : c.args.d ≢ pos 0 = λ e. absurd (omega (arith, ints, e, c.requires.positive)) in
    let floor = rw (to_z-of_z w128 c.args.n c.ranges.n, to_z-of_z w128 c.args.d c.ranges.d) at c.floor_div.ensures.floor in
    rw (to_z-of_z w128 c.floor_div.result fits) (IsFloor-unique n d c.floor_div.result (floor_of n d) some floor (IsFloor-floor_of n d some))
