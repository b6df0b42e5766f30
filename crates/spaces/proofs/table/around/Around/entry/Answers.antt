-- Its space and its values.
use Rattle.spaces.proofs.AroundLemmas.{entry-seen}
use Rattle.spaces.proofs.table.around.Around.entry.Goals as goal

pub returns-clause-entry : goal.returns-clause-entry
returns-clause-entry g c =
    entry-seen c.args.page.now.contents c.requires.valid c.args.id c.node.result.now c.node.ensures.node c.args.self.now c.requires.around c.in_ok-space.space c.values-values.result c.in_ok-space.ensures.space c.values-values.ensures
