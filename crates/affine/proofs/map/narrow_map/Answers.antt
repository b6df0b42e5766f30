use Rattle.affine.proofs.MapLemmas.{IsMap-lowest_terms}
use Rattle.affine.proofs.map.narrow_map.Goals as goal

pub invariant_of-result : goal.invariant_of-result
invariant_of-result c = rw c.reduced.ensures.value (IsMap-lowest_terms c.args.p.now c.requires.positive c.requires.bound)
