-- The nodes outside of the renewed subtree stay within the bound.
use Rattle.spaces.proofs.BoundFrameLemmas.{bounded-after}
use Rattle.spaces.proofs.laws.frame_bound.Goals as goal

pub returns : goal.returns
returns c = bounded-after
