use Rattle.spatial_index.proofs.TimesLemmas.{times_push}
use Rattle.spatial_index.proofs.cell.Cell.put.Goals as goal

pub returns-clause-items : goal.returns-clause-items
returns-clause-items c other =
    rw (c.push_reserved.ensures.items, ← c.self.view_is) (times_push other c.self.inside.items.items c.args.item)
