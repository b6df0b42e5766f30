-- The comparison that the sort is given is that of places.
use Rattle.std.proofs.Common.{rules}
use Rattle.std.proofs.lemmas.Fn.{always_returns_same}
use Rattle.point_query.specs.Topmost.{lies_above, painted}
use Rattle.point_query.proofs.TopmostLemmas.{above-order}
use Rattle.point_query.proofs.topmost.order_topmost_first.Goals as goal

pub returns-clause-sorted : goal.returns-clause-sorted
returns-clause-sorted c =
    let xs = painted c.args.forest.now in
    c.sort_unstable_by.ensures.sorted (lies_above xs) (above-order xs) (always_returns_same _ _ _ (λ a r f k. search rules))
