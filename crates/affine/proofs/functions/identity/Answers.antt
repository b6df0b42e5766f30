use Rattle.affine.specs.Gcd.{gcd}
use Rattle.affine.specs.Map.{common_divisor, lowest_terms}
use Rattle.affine.proofs.functions.identity.Goals as goal

pub returns : goal.returns
unfolding lowest_terms common_divisor gcd
returns c = c.narrow_map.ensures
