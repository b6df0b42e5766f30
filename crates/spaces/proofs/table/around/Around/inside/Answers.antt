-- Each part of what is handed down.
use Rattle.std.specs.Option.{option_copied}
use Rattle.spaces.proofs.SpaceLemmas.{numbers-seen}
use Rattle.spaces.proofs.AroundLemmas.{around-inside}
use Rattle.spaces.proofs.table.around.Around.inside.Goals as goal

pub inner-inner-requires : goal.inner-inner-requires
inner-inner-requires g c = numbers-seen c.args.page.now.contents c.requires.valid c.args.id c.node-node.result.now c.node-node.ensures.node

pub shows_in-requires : goal.shows_in-requires
shows_in-requires g c = numbers-seen c.args.page.now.contents c.requires.valid c.args.id c.node-node.result.now c.node-node.ensures.node

pub returns : goal.returns
returns g c =
    around-inside c.args.page.now.contents c.requires.valid c.args.id c.node-node.result.now c.node-node.ensures.node c.args.self.now c.requires.around
    (option_copied c.find-parent.result) c.find-parent.ensures c.args.space c.requires.space c.inner-inner.result c.inner-inner.ensures
    _ c.shows_in.ensures c.compute.ensures c.place_inside.ensures c.place_inside-2.ensures c.place_inside-3.ensures c.place_inside-4.ensures
