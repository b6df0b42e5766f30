-- The boxes are those of the node in its place.
use Rattle.std.proofs.Common.{ap, ◌++◌, ◌∙◌, sym, true, false}
use Rattle.std.proofs.lemmas.List.{append-nil}
use Rattle.stacking.proofs.PageLemmas.{few_boxes}
use Rattle.stacking.proofs.SeenLemmas.{head-seen}
use Rattle.stacking.proofs.items.push_head.Goals as goal

pub push_boxes-requires : goal.push_boxes-requires
push_boxes-requires c = few_boxes c.args.page.now.contents c.requires.valid _ c.read-node.result.now c.read-node.ensures

pub returns-in_ok-push_boxes : goal.returns-in_ok-push_boxes
returns-in_ok-push_boxes c = c.in_ok-push_boxes.ensures ∙ ap (λ xs. c.args.items.now.items ++ xs) (head-seen c.args.page.now.contents c.requires.valid c.args.id c.read-node.result.now c.read-node.ensures true _ c.parent_in.ensures (sym c.if-has_head.true ∙ c.has_head.ensures))

pub returns-else-has_head : goal.returns-else-has_head
returns-else-has_head c = sym (append-nil c.args.items.now.items) ∙ ap (λ xs. c.args.items.now.items ++ xs) (head-seen c.args.page.now.contents c.requires.valid c.args.id c.read-node.result.now c.read-node.ensures false _ c.parent_in.ensures (sym c.if-has_head.false ∙ c.has_head.ensures))
