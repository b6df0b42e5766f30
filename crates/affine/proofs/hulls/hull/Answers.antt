use Rattle.std.proofs.Common.{◌≡◌}
use Rattle.affine.specs.Hull.{hull_of}
use Rattle.affine.proofs.Bits.{AreRead-bound}
use Rattle.affine.proofs.HullLemmas.{IsHull-hull_of}
use Rattle.affine.proofs.hulls.hull.Goals as goal

pub returns-clause-value : goal.returns-clause-value
returns-clause-value c =
    let m = AreRead-bound c.args.m.now c.parts-parts.ensures.map.bound in
    let left : c.span-across.result.from ≡ (hull_of c.args.m.now c.args.r.now).l = rw (c.parts-parts.ensures.value, m.a, m.c, m.e, m.q) at c.span-across.ensures.from in
    let right : c.span-across.result.before ≡ (hull_of c.args.m.now c.args.r.now).r = rw (c.parts-parts.ensures.value, m.a, m.c, m.e, m.q) at c.span-across.ensures.before in
    let top : c.span-down.result.from ≡ (hull_of c.args.m.now c.args.r.now).t = rw (c.parts-parts.ensures.value, m.b, m.d, m.f, m.q) at c.span-down.ensures.from in
    let bottom : c.span-down.result.before ≡ (hull_of c.args.m.now c.args.r.now).b = rw (c.parts-parts.ensures.value, m.b, m.d, m.f, m.q) at c.span-down.ensures.before in
    rw (left, top, right, bottom) at c.shared.ensures

pub returns-clause-least : goal.returns-clause-least
returns-clause-least c =
    IsHull-hull_of c.args.m.now c.args.r.now c.parts-parts.ensures.map.lowest.positive c.requires.across c.requires.down
