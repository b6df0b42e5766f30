use Rattle.std.proofs.Common.{◌≡◌, None, arith, subst}
use Rattle.paint_order.specs.Paths.{LeadsOn}
use Rattle.paint_order.proofs.PathLemmas.{arrived}
use Rattle.paint_order.proofs.forest.Forest.whole_path.Goals as goal

pub climb-requires : goal.climb-requires
climb-requires g c =
    let i = c.requires.item.0 in
    let way = subst (λ on. LeadsOn c.args.self.now.lists c.args.self.now.root on c.args.way.now i) c.in-Some.is c.requires.item.1 in
    (omega arith, (c.requires.whole, (c.requires.shallow, (i, rw c.with_room-path.ensures way))))

pub returns-in-None-clause-leads : goal.returns-in-None-clause-leads
returns-in-None-clause-leads g c i way =
    rw c.with_room-path.ensures (subst (λ on. LeadsOn c.args.self.now.lists c.args.self.now.root on c.args.way.now i) c.in-None.is way)

pub returns-in-None-clause-cost : goal.returns-in-None-clause-cost
returns-in-None-clause-cost g c = rw (c.in-None.is, c.with_room-path.ensures) (omega arith)

pub returns-in-Some-clause-leads : goal.returns-in-Some-clause-leads
returns-in-Some-clause-leads g c i way =
    let below = subst (λ on. LeadsOn c.args.self.now.lists c.args.self.now.root on c.args.way.now i) c.in-Some.is way in
    let on = c.climb.ensures.leads i (rw c.with_room-path.ensures below) in
    (arrived c.args.self.now.lists 256 c.args.self.now.root c.climb.result c.climb.new.path i c.requires.shallow c.climb.ensures.full on).1

pub returns-in-Some-clause-cost : goal.returns-in-Some-clause-cost
returns-in-Some-clause-cost g c =
    let i = c.requires.item.0 in
    let below = subst (λ on. LeadsOn c.args.self.now.lists c.args.self.now.root on c.args.way.now i) c.in-Some.is c.requires.item.1 in
    let on = c.climb.ensures.leads i (rw c.with_room-path.ensures below) in
    let none : c.climb.result ≡ None = (arrived c.args.self.now.lists 256 c.args.self.now.root c.climb.result c.climb.new.path i c.requires.shallow c.climb.ensures.full on).0 in
    let cost = rw (none, c.with_room-path.ensures) at c.climb.ensures.cost in
    rw (c.in-Some.is) (omega (arith, cost))
