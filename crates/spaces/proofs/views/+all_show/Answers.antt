-- The node, and those above it.
use Rattle.std.proofs.Common.{sym, ap, ◌∙◌, arith}
use Rattle.box_tree.proofs.ContainingLemmas.{ancestors-fewer}
use Rattle.std.specs.Prelude.{◌&&◌}
use Rattle.std.specs.List.{list_all}
use Rattle.box_tree.specs.Edited.{ancestors_below}
use Rattle.spaces.specs.Spaces.{shows}
use Rattle.spaces.proofs.SpaceLemmas.{numbers-seen}
use Rattle.spaces.proofs.ShownLemmas.{shown-seen}
use Rattle.spaces.proofs.views.+all_show.Goals as goal

pub all_show-requires : goal.all_show-requires
all_show-requires g t c κs within =
    let fewer = ancestors-fewer c.args.page.now.contents c.requires c.args.id c.node-node.result.now c.node-node.ensures.node in
    (omega (arith, fewer), (within, c.requires))

pub shows-requires : goal.shows-requires
shows-requires g t c = numbers-seen c.args.page.now.contents c.requires c.args.id c.node-node.result.now c.node-node.ensures.node

pub returns-then-shows : goal.returns-then-shows
returns-then-shows g t c =
    let page = c.args.page.now.contents in
    let node = c.node-node.result.now in
    c.all_show.ensures
    ∙ sym (shown-seen page c.requires c.args.id node c.node-node.ensures.node
    ∙ ap (λ b. b && list_all shows (ancestors_below page node.parent)) (sym c.shows.ensures ∙ c.if-shows.true))

pub returns-else-shows : goal.returns-else-shows
returns-else-shows g t c =
    let page = c.args.page.now.contents in
    let node = c.node-node.result.now in
    c.if-shows.false
    ∙ sym (shown-seen page c.requires c.args.id node c.node-node.ensures.node
    ∙ ap (λ b. b && list_all shows (ancestors_below page node.parent)) (sym c.shows.ensures ∙ c.if-shows.false))
