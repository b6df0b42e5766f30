use Rattle.std.proofs.Common.{arith, sym, ◌<ℤ◌, FitsSigned}
use Rattle.std.specs.Int.{w64, w128}
use Rattle.std.proofs.lemmas.Int.{ints, to_z-of_z}
use Rattle.affine.proofs.HullLemmas.{zeros_if_empty-some}
use Rattle.affine.proofs.hulls.some_rect.Goals as goal

pub returns-then-t-b : goal.returns-then-t-b
returns-then-t-b c =
    let across : c.args.l <ℤ c.args.r = omega (arith, ints, c.if-l-r.true) in
    let down : c.args.t <ℤ c.args.b = omega (arith, ints, c.if-t-b.true) in
    let l : FitsSigned w64 c.args.l = omega (arith, ints, c.requires.left, c.requires.right) in
    let t : FitsSigned w64 c.args.t = omega (arith, ints, c.requires.top, c.requires.bottom) in
    let r : FitsSigned w64 c.args.r = omega (arith, ints, c.requires.left, c.requires.right) in
    let b : FitsSigned w64 c.args.b = omega (arith, ints, c.requires.top, c.requires.bottom) in
    rw (
      to_z-of_z w128 c.args.l c.ranges.l,
      to_z-of_z w128 c.args.t c.ranges.t,
      to_z-of_z w128 c.args.r c.ranges.r,
      to_z-of_z w128 c.args.b c.ranges.b,
      to_z-of_z w64 c.args.l l,
      to_z-of_z w64 c.args.t t,
      to_z-of_z w64 c.args.r r,
      to_z-of_z w64 c.args.b b,
    ) (sym (zeros_if_empty-some (record { l = c.args.l; t = c.args.t; r = c.args.r; b = c.args.b }) across down))
