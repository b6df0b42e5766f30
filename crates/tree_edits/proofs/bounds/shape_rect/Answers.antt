-- The bounds of a shape have their edges in order.
use Rattle.tree_edits.proofs.BoundsLemmas.{in_order-given}
use Rattle.tree_edits.proofs.bounds.shape_rect.Goals as goal

pub units_around-requires-clause-across : goal.units_around-requires-clause-across
units_around-requires-clause-across c = (in_order-given c.args.shape.now _ c.in-Some.bounds c.in-Some.ensures.value).0

pub units_around-requires-clause-down : goal.units_around-requires-clause-down
units_around-requires-clause-down c = (in_order-given c.args.shape.now _ c.in-Some.bounds c.in-Some.ensures.value).1
