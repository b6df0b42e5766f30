-- Such a context is the node itself.
use Rattle.stacking.proofs.MadeLemmas.{made-there, made-next, view-contexts}
use Rattle.stacking.proofs.laws.frame_contexts.Goals as goal

pub returns : goal.returns
returns c = record {
  new_there = λ page edit changed id can is before later. made-there page edit changed id can is before later;
  new_next = λ page edit changed id can is before later. made-next page edit changed id can is before later;
  view_contexts = view-contexts;
}
