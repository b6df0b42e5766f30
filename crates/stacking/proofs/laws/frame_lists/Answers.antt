-- What the walks see of the trees below such a context is the same before and after.
use Rattle.stacking.proofs.FrameLemmas.{frame-list, view-list}
use Rattle.stacking.proofs.laws.frame_lists.Goals as goal

pub returns : goal.returns
returns c = record {
  lists = λ page edit changed id can is before after apart apart'. frame-list page edit changed id can is before after apart apart';
  view_lists = view-list;
}
