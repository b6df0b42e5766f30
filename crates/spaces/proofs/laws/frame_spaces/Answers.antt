-- The trees without the edited node stay as they are.
use Rattle.box_tree.proofs.RestLemmas.{outside-after}
use Rattle.spaces.proofs.FrameLemmas.{space-outside, values-outside, values-viewed}
use Rattle.spaces.proofs.laws.frame_spaces.Goals as goal

pub returns-clause-space : goal.returns-clause-space
returns-clause-space c = space-outside

pub returns-clause-values : goal.returns-clause-values
returns-clause-values c = values-outside

pub returns-clause-view_values : goal.returns-clause-view_values
returns-clause-view_values c = values-viewed

pub returns-clause-outside : goal.returns-clause-outside
returns-clause-outside c = outside-after
