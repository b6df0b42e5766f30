use Rattle.std.proofs.Common.{rules, FitsSigned, ◌*ℤ◌, pos}
use Rattle.std.proofs.Math.Nat.{le_trans}
use Rattle.std.specs.Int.{w128}
use Rattle.std.proofs.lemmas.Int.{to_z-of_z}
use Rattle.affine.proofs.Bits.{times_64-fits, times_64-read, times_64-size}
use Rattle.affine.proofs.FloorLemmas.{IsFloor-floor_of, IsFloor-unique, floor_of-size}
use Rattle.affine.specs.Point.{floor_of}
use Rattle.affine.proofs.points.floor_in_fine_units.Goals as goal

pub overflow_mul-n : goal.overflow_mul-n
overflow_mul-n c = times_64-fits c.args.n c.requires.n_size

pub returns-clause-floor : goal.returns-clause-floor
returns-clause-floor c =
    let fits : FitsSigned w128 c.floor_div.result = search rules in
    rw (to_z-of_z w128 c.floor_div.result fits)
    (rw (times_64-read c.args.n c.requires.n_size, to_z-of_z w128 c.args.d c.ranges.d) at c.floor_div.ensures.floor)

pub returns-clause-value : goal.returns-clause-value
returns-clause-value c =
    let n = pos 64 *ℤ c.args.n in
    IsFloor-unique n c.args.d _ (floor_of n c.args.d) c.requires.divisor (returns-clause-floor c) (IsFloor-floor_of n c.args.d c.requires.divisor)

pub returns-clause-size : goal.returns-clause-size
returns-clause-size c =
    rw (returns-clause-value c)
    (le_trans (floor_of-size (pos 64 *ℤ c.args.n) c.args.d) (times_64-size c.args.n c.requires.n_size))
