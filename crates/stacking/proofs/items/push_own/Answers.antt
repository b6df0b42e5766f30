-- The boxes are those of the node in its place.
use Rattle.std.proofs.Common.{ap, ◌++◌, ◌∙◌}
use Rattle.stacking.proofs.PageLemmas.{few_boxes}
use Rattle.stacking.proofs.SeenLemmas.{own-seen, ok-weaker}
use Rattle.stacking.proofs.items.push_own.Goals as goal

pub push_boxes-requires : goal.push_boxes-requires
push_boxes-requires c = few_boxes c.args.page.now.contents c.requires.valid _ c.read.result.now c.read.ensures

pub returns : goal.returns
returns c = ok-weaker c.push_boxes.result _ _ (λ x known. known ∙ ap (λ xs. c.args.items.now.items ++ xs) (own-seen c.args.page.now.contents c.requires.valid c.args.id c.read.result.now c.read.ensures)) c.push_boxes.ensures
