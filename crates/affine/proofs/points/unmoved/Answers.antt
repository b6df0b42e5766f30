use Rattle.std.proofs.Common.{◌≡◌, ◌*ℤ◌, ◌∙◌, refl, ◌^◌, ◌≤◌, lit≤}
use Rattle.std.proofs.Math.Nat.{le_trans}
use Rattle.std.specs.Prelude.{unsigned_abs}
use Rattle.std.specs.Int.{w128}
use Rattle.std.proofs.lemmas.Int.{to_z-of_z}
use Rattle.whole_numbers.proofs.Widths.{width-mul}
use Rattle.affine.proofs.Bits.{difference-fits, difference-read, difference-size, widened, widened-size}
use Rattle.affine.proofs.points.unmoved.Goals as goal

product : (c : goal.After-times) → c.times.result ≡ c.args.q *ℤ c.args.x
product c =
    rw (to_z-of_z w128 c.args.q c.ranges.q, widened c.args.x c.from.result c.ranges.x c.from.ensures) at c.times.ensures.value

pub times-requires-clause-x_size : goal.times-requires-clause-x_size
times-requires-clause-x_size c = widened-size c.args.x c.from.result c.ranges.x c.from.ensures

pub returns-clause-value : goal.returns-clause-value
returns-clause-value c =
    difference-read c.times.result c.args.e (le_trans c.times.ensures.size (lit≤ tt)) (le_trans c.requires.e_size (lit≤ tt))
    ∙ rw (product c) refl

pub overflow_sub-result : goal.overflow_sub-result
overflow_sub-result c =
    difference-fits c.times.result c.args.e (le_trans c.times.ensures.size (lit≤ tt)) (le_trans c.requires.e_size (lit≤ tt))

pub returns-clause-size : goal.returns-clause-size
returns-clause-size c =
    let size : unsigned_abs c.times.result ≤ 2 ^ 64 =
    rw (product c) (width-mul c.args.q c.args.x (2 ^ 44) (2 ^ 20) c.requires.q_size c.requires.x_size) in
    le_trans (difference-size c.times.result c.args.e (2 ^ 64) (2 ^ 70) (lit≤ tt) (lit≤ tt) size c.requires.e_size) (lit≤ tt)
