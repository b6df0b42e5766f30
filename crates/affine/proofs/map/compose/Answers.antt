use Rattle.whole_numbers.proofs.Products.{mul-positive}
use Rattle.affine.proofs.PointLemmas.{IsSamePoint-product}
use Rattle.affine.proofs.map.compose.Goals as goal

pub from_parts-requires-clause-positive : goal.from_parts-requires-clause-positive
from_parts-requires-clause-positive c =
    rw c.multiplied.ensures.value
    (mul-positive c.left.inside.parts.q c.right.inside.parts.q c.left.invariant.lowest.positive c.right.invariant.lowest.positive)

pub returns-clause-meaning : goal.returns-clause-meaning
returns-clause-meaning c = IsSamePoint-product c.args.left.now c.args.right.now
