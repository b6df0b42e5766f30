-- A walk down to a stacking context meets the nearest one above it, of which it is a member.
use Rattle.stacking.proofs.StandLemmas.{stands_above, sub-real, sub-nearest}
use Rattle.stacking.proofs.laws.contexts_stand_in_lists.Goals as goal

pub returns : goal.returns
returns c = record {
  all_stand = λ page id valid real inner. stands_above page valid id real inner;
  all_are_real = λ page id context k valid is. sub-real page valid id context k is;
  all_are_nearest = λ page id context k valid is. sub-nearest page valid id context k is;
}
