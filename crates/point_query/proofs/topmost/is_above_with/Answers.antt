-- By whether the two are painted.
use Rattle.std.proofs.Common.{sym, ◌∙◌}
use Rattle.point_query.specs.Topmost.{painted}
use Rattle.point_query.proofs.TopmostLemmas.{above-none, none-above, earlier-places}
use Rattle.point_query.proofs.topmost.is_above_with.Goals as goal

pub returns-then-not-stands : goal.returns-then-not-stands
returns-then-not-stands g c =
    let o = c.requires.ordered in
    sym (above-none (painted c.args.forest.now) c.args.number c.args.other (sym (c.if-not-stands.ensures.painted o.whole o.shallow)))

pub returns-then-not-stands-2 : goal.returns-then-not-stands-2
returns-then-not-stands-2 g c =
    let o = c.requires.ordered in
    sym (none-above (painted c.args.forest.now) c.args.number c.args.other (sym (c.if-not-stands-2.ensures.painted o.whole o.shallow)) (sym (c.if-not-stands.ensures.painted o.whole o.shallow)))

pub returns : goal.returns
returns g c =
    let o = c.requires.ordered in
    c.before-2.ensures.earlier
    ∙ earlier-places (painted c.args.forest.now) c.args.other c.args.number o.once (sym (c.if-not-stands.ensures.painted o.whole o.shallow)) (sym (c.if-not-stands-2.ensures.painted o.whole o.shallow))
