use Rattle.std.proofs.Common.{◌∙◌}
use Rattle.corner_shapes.specs.Overlap.{factor}
use Rattle.corner_shapes.proofs.OverlapLemmas.{lesser_share}
use Rattle.corner_shapes.proofs.radii.factor_of.Goals as goal

pub returns : goal.returns
unfolding factor
returns c =
    let top = c.limited.ensures ∙ lesser_share _ c.one.ensures c.top_sum.ensures.sum in
    let right = c.limited-2.ensures ∙ lesser_share _ top c.right_sum.ensures.sum in
    let bottom = c.limited-3.ensures ∙ lesser_share _ right c.bottom_sum.ensures.sum in
    c.limited-4.ensures ∙ lesser_share _ bottom c.left_sum.ensures.sum
