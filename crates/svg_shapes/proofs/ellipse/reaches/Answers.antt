use Rattle.std.proofs.Common.{arith}
use Rattle.svg_shapes.proofs.EllipseLemmas.{too_far_across, too_far_down}
use Rattle.svg_shapes.proofs.ellipse.reaches.Goals as goal

pub returns-then-from-across : goal.returns-then-from-across
returns-then-from-across c = (
  λ t. let no : ⊥ = cc in absurd no,
  λ h. absurd (too_far_across c.args.across c.args.down c.args.rx c.args.ry (omega arith) (omega arith) h),
)

pub returns-then-from-down : goal.returns-then-from-down
returns-then-from-down c = (
  λ t. let no : ⊥ = cc in absurd no,
  λ h. absurd (too_far_down c.args.across c.args.down c.args.rx c.args.ry (omega arith) (omega arith) h),
)
