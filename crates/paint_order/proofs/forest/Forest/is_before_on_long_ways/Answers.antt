use Rattle.std.proofs.Common.{◌≡◌, ap, ◌∙◌, subst, arith}
use Rattle.paint_order.specs.Places.{ArePlaced}
use Rattle.paint_order.proofs.PathLemmas.{is_less, slices-less, order_of_ways, length_way}
use Rattle.paint_order.proofs.forest.Forest.is_before_on_long_ways.Goals as goal

pub returns-clause-earlier : goal.returns-clause-earlier
returns-clause-earlier g c i j up up' =
    let lists = c.args.self.now.lists in
    let root = c.args.self.now.root in
    let places = c.self.inside.places in
    let placed = subst (λ f. ArePlaced f.lists places) c.self.view_is c.self.invariant.placed in
    let first_path = c.whole_path-first_path.result in
    let second_path = c.whole_path-second_path.result in
    let test : c.lt.result ≡ is_less first_path second_path =
    c.lt.ensures ∙ slices-less c.numbers.result.now c.numbers-2.result.now
    ∙ ap (λ js. is_less js c.numbers-2.result.now) c.numbers.ensures ∙ ap (is_less first_path) c.numbers-2.ensures in
    test ∙ order_of_ways lists places root i j 256 first_path second_path placed c.requires.whole c.requires.shallow
    (c.whole_path-first_path.ensures.leads i up) (c.whole_path-second_path.ensures.leads j up')

pub returns-clause-cost : goal.returns-clause-cost
returns-clause-cost g c =
    let lists = c.args.self.now.lists in
    let root = c.args.self.now.root in
    let first = c.whole_path-first_path.ensures.leads c.requires.first.0 c.requires.first.1 in
    let second = c.whole_path-second_path.ensures.leads c.requires.second.0 c.requires.second.1 in
    let short = length_way lists 256 root c.whole_path-first_path.result c.requires.first.0 (c.requires.shallow root) first in
    let short' = length_way lists 256 root c.whole_path-second_path.result c.requires.second.0 (c.requires.shallow root) second in
    omega (arith, short, short', c.whole_path-first_path.ensures.cost, c.whole_path-second_path.ensures.cost)
