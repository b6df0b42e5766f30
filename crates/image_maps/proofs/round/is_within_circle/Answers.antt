use Rattle.std.proofs.Common.{arith}
use Rattle.image_maps.proofs.Circles.{too_far_across, too_far_down}
use Rattle.image_maps.proofs.round.is_within_circle.Goals as goal

pub returns-then-radius-across : goal.returns-then-radius-across
returns-then-radius-across c = (
  λ t. let no : ⊥ = cc in absurd no,
  λ h. absurd (too_far_across c.args.across c.args.down c.args.radius (omega arith) h),
)

pub returns-then-radius-down : goal.returns-then-radius-down
returns-then-radius-down c = (
  λ t. let no : ⊥ = cc in absurd no,
  λ h. absurd (too_far_down c.args.across c.args.down c.args.radius (omega arith) h),
)
