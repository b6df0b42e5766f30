use Rattle.std.proofs.Common.{◌≡◌, ◌+◌, Bool, true, false, cond, refl, ap, sym, ◌∙◌, subst, arith}
use Rattle.std.specs.Option.{is_some}
use Rattle.paint_order.specs.declared.entry.Entry.TheVariants.{Item}
use Rattle.paint_order.specs.Lists.{StandsAt}
use Rattle.paint_order.specs.Paths.{LeadsOn}
use Rattle.paint_order.specs.Places.{ArePlaced}
use Rattle.paint_order.proofs.TableLemmas.{room-from_standing, stands-at_place}
use Rattle.paint_order.proofs.PathLemmas.{is_less, slices-less, order_of_ways, order_in_list, first_way, length_way}
use Rattle.paint_order.proofs.forest.Forest.before.Goals as goal

pub of-first-requires : goal.of-first-requires
of-first-requires g c =
    let placed = subst (λ f. ArePlaced f.lists c.self.inside.places) c.self.view_is c.self.invariant.placed in
    room-from_standing c.args.self.now.lists c.self.inside.places (Item c.args.i) placed c.requires.first

pub of-second-requires : goal.of-second-requires
of-second-requires g c =
    let placed = subst (λ f. ArePlaced f.lists c.self.inside.places) c.self.view_is c.self.invariant.placed in
    room-from_standing c.args.self.now.lists c.self.inside.places (Item c.args.j) placed c.requires.second

pub returns-then-first-second-clause-earlier : goal.returns-then-first-second-clause-earlier
returns-then-first-second-clause-earlier g c =
    let lists = c.args.self.now.lists in
    let places = c.self.inside.places in
    let placed = subst (λ f. ArePlaced f.lists places) c.self.view_is c.self.invariant.placed in
    let first = stands-at_place lists places (Item c.args.i) placed c.requires.first c.of-first.result c.of-first.ensures in
    let second = stands-at_place lists places (Item c.args.j) placed c.requires.second c.of-second.result c.of-second.ensures in
    order_in_list lists places c.args.self.now.root c.args.i c.args.j 256 c.of-first.result.list
    c.of-first.result.at c.of-second.result.at placed c.requires.whole c.requires.shallow first
    (subst (λ l. StandsAt lists (Item c.args.j) l c.of-second.result.at) (sym c.if-first-second.true) second)

pub climb-first_on-requires : goal.climb-first_on-requires
climb-first_on-requires g c =
    let lists = c.args.self.now.lists in
    let placed = subst (λ f. ArePlaced f.lists c.self.inside.places) c.self.view_is c.self.invariant.placed in
    let at = stands-at_place lists c.self.inside.places (Item c.args.i) placed c.requires.first c.of-first.result c.of-first.ensures in
    (omega arith, (c.requires.whole, (c.requires.shallow, (c.args.i, rw c.new-first_way.ensures (first_way lists c.of-first.result.list c.of-first.result.at c.args.i at)))))

pub climb-second_on-requires : goal.climb-second_on-requires
climb-second_on-requires g c =
    let lists = c.args.self.now.lists in
    let placed = subst (λ f. ArePlaced f.lists c.self.inside.places) c.self.view_is c.self.invariant.placed in
    let at = stands-at_place lists c.self.inside.places (Item c.args.j) placed c.requires.second c.of-second.result c.of-second.ensures in
    (omega arith, (c.requires.whole, (c.requires.shallow, (c.args.j, rw c.new-second_way.ensures (first_way lists c.of-second.result.list c.of-second.result.at c.args.j at)))))

pub returns-in-None-None : goal.returns-in-None-None
returns-in-None-None g c =
    let lists = c.args.self.now.lists in
    let root = c.args.self.now.root in
    let places = c.self.inside.places in
    let placed = subst (λ f. ArePlaced f.lists places) c.self.view_is c.self.invariant.placed in
    let up = c.climb-first_on.ensures.leads c.args.i (rw c.new-first_way.ensures (first_way lists c.of-first.result.list c.of-first.result.at c.args.i
    (stands-at_place lists places (Item c.args.i) placed c.requires.first c.of-first.result c.of-first.ensures))) in
    let up' = c.climb-second_on.ensures.leads c.args.j (rw c.new-second_way.ensures (first_way lists c.of-second.result.list c.of-second.result.at c.args.j
    (stands-at_place lists places (Item c.args.j) placed c.requires.second c.of-second.result c.of-second.ensures))) in
    let first_path = c.climb-first_on.new.path in
    let second_path = c.climb-second_on.new.path in
    let first = subst (λ on. LeadsOn lists root on first_path c.args.i) c.in-None-None.is-0 up in
    let second = subst (λ on. LeadsOn lists root on second_path c.args.j) c.in-None-None.is-1 up' in
    let short = length_way lists 256 root first_path c.args.i (c.requires.shallow root) first in
    let short' = length_way lists 256 root second_path c.args.j (c.requires.shallow root) second in
    let cost = rw (c.new-first_way.ensures, c.in-None-None.is-0) at c.climb-first_on.ensures.cost in
    let cost' = rw (c.new-second_way.ensures, c.in-None-None.is-1) at c.climb-second_on.ensures.cost in
    let test : c.lt.result ≡ is_less first_path second_path =
    c.lt.ensures ∙ slices-less c.numbers.result.now c.numbers-in-None-None.result.now
    ∙ ap (λ js. is_less js c.numbers-in-None-None.result.now) c.numbers.ensures ∙ ap (is_less first_path) c.numbers-in-None-None.ensures in
    record {
      earlier = test ∙ order_of_ways lists places root c.args.i c.args.j 256 first_path second_path placed c.requires.whole c.requires.shallow first second;
      cost = omega (arith, short, short', cost, cost');
      counts = omega arith;
    }

pub is_before_on_long_ways-requires-clause-first : goal.is_before_on_long_ways-requires-clause-first
is_before_on_long_ways-requires-clause-first g c =
    let lists = c.args.self.now.lists in
    let places = c.self.inside.places in
    let placed = subst (λ f. ArePlaced f.lists places) c.self.view_is c.self.invariant.placed in
    let up = c.climb-first_on.ensures.leads c.args.i (rw c.new-first_way.ensures (first_way lists c.of-first.result.list c.of-first.result.at c.args.i
    (stands-at_place lists places (Item c.args.i) placed c.requires.first c.of-first.result c.of-first.ensures))) in
    (c.args.i, up)

pub is_before_on_long_ways-requires-clause-second : goal.is_before_on_long_ways-requires-clause-second
is_before_on_long_ways-requires-clause-second g c =
    let lists = c.args.self.now.lists in
    let places = c.self.inside.places in
    let placed = subst (λ f. ArePlaced f.lists places) c.self.view_is c.self.invariant.placed in
    let up = c.climb-second_on.ensures.leads c.args.j (rw c.new-second_way.ensures (first_way lists c.of-second.result.list c.of-second.result.at c.args.j
    (stands-at_place lists places (Item c.args.j) placed c.requires.second c.of-second.result c.of-second.ensures))) in
    (c.args.j, up)

either : (b : Bool) → cond b 0 1 + cond b 1 0 ≡ 1
either true = refl
either false = refl

pub returns : goal.returns
returns g c =
    let lists = c.args.self.now.lists in
    let places = c.self.inside.places in
    let placed = subst (λ f. ArePlaced f.lists places) c.self.view_is c.self.invariant.placed in
    let up = c.climb-first_on.ensures.leads c.args.i (rw c.new-first_way.ensures (first_way lists c.of-first.result.list c.of-first.result.at c.args.i
    (stands-at_place lists places (Item c.args.i) placed c.requires.first c.of-first.result c.of-first.ensures))) in
    let up' = c.climb-second_on.ensures.leads c.args.j (rw c.new-second_way.ensures (first_way lists c.of-second.result.list c.of-second.result.at c.args.j
    (stands-at_place lists places (Item c.args.j) placed c.requires.second c.of-second.result c.of-second.ensures))) in
    let cost = rw c.new-first_way.ensures at c.climb-first_on.ensures.cost in
    let cost' = rw c.new-second_way.ensures at c.climb-second_on.ensures.cost in
    record {
      earlier = c.is_before_on_long_ways.ensures.earlier c.args.i c.args.j up up';
      cost = omega (arith, cost, cost', c.is_before_on_long_ways.ensures.cost, either (is_some c.climb-first_on.result), either (is_some c.climb-second_on.result));
      counts = omega arith;
    }
