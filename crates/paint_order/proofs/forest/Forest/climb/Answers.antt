use Rattle.std.proofs.Common.{sym, ap, ◌∙◌, subst, arith}
use Rattle.paint_order.specs.declared.entry.Entry.TheVariants.{Sub}
use Rattle.paint_order.specs.Places.{ArePlaced}
use Rattle.paint_order.proofs.TableLemmas.{room-from_standing, stands-at_place}
use Rattle.paint_order.proofs.PathLemmas.{there-from_way, way_up}
use Rattle.paint_order.proofs.forest.Forest.climb.Goals as goal

pub loop-init : goal.loop-init
loop-init g c = record { leads = λ i way. way; count = omega arith; cost = omega arith; counts = omega arith }

pub of-above-requires : goal.of-above-requires
of-above-requires g c =
    let way = c.loop.invariant.leads c.requires.item.0 c.requires.item.1 in
    let stands = c.requires.whole c.loop.above.list (there-from_way c.args.self.now.lists c.loop.above.list _ _ way)
    (λ e. c.if-above-self.false (e ∙ sym (ap (λ f. f.root) c.self.view_is))) in
    let placed = subst (λ f. ArePlaced f.lists c.self.inside.places) c.self.view_is c.self.invariant.placed in
    room-from_standing c.args.self.now.lists c.self.inside.places (Sub c.loop.above.list) placed stands

pub loop-preserved : goal.loop-preserved
loop-preserved g c =
    let way = c.loop.invariant.leads c.requires.item.0 c.requires.item.1 in
    let stands = c.requires.whole c.loop.above.list (there-from_way c.args.self.now.lists c.loop.above.list _ _ way)
    (λ e. c.if-above-self.false (e ∙ sym (ap (λ f. f.root) c.self.view_is))) in
    let placed = subst (λ f. ArePlaced f.lists c.self.inside.places) c.self.view_is c.self.invariant.placed in
    let at = stands-at_place c.args.self.now.lists c.self.inside.places (Sub c.loop.above.list) placed stands
    c.of-above.result c.of-above.ensures in
    record {
      leads = λ i here. rw (c.push_front.ensures)
          (way_up c.args.self.now.lists c.loop.above.list c.of-above.result.list c.of-above.result.at _ i
          (c.loop.invariant.leads i here) at);
      count = rw (c.push_front.ensures) (omega arith);
      cost = rw (c.push_front.ensures) (omega arith);
      counts = omega arith;
    }
