-- The node goes into a free slot, to which its id then leads.
use Rattle.std.proofs.Common.{◌≡◌, ◌<◌, length, None, vec_len, sym, subst, arith}
use Rattle.slab.specs.Slab.{values}
use Rattle.box_tree.specs.Kept.{node_with}
use Rattle.box_tree.specs.Nodes.{NodesState}
use Rattle.box_tree.proofs.NodesLemmas.{length-held, led-put, found-put}
use Rattle.box_tree.proofs.nodes.Nodes.put.Goals as goal

pub insert_reserved-slot-requires : goal.insert_reserved-slot-requires
insert_reserved-slot-requires c =
    let fits : length (values c.self.inside.slots) < c.self.inside.slots.capacity = subst (λ (v : NodesState). length v.nodes < v.room) (sym c.self.view_is) c.requires.fits in
    omega (arith, length-held c.self.inside.slots.slots)

pub invariant_of-self : goal.invariant_of-self
invariant_of-self c =
    let within : c.args.node.id < vec_len c.self.inside.places = subst (λ (v : NodesState). c.args.node.id < v.ids) (sym c.self.view_is) c.requires.placed in
    let placed : c.args.node.id < length c.self.inside.places.items = omega arith in
    let absent : node_with (values c.self.inside.slots) c.args.node.id ≡ None = subst (λ (v : NodesState). node_with v.nodes c.args.node.id ≡ None) (sym c.self.view_is) c.requires.absent in
    led-put _ _ _ c.self.invariant _ _ placed absent c.insert_reserved-slot.ensures.was_vacant c.insert_reserved-slot.ensures.updates

pub returns-clause-looked_up : goal.returns-clause-looked_up
returns-clause-looked_up c =
    let within : c.args.node.id < vec_len c.self.inside.places = subst (λ (v : NodesState). c.args.node.id < v.ids) (sym c.self.view_is) c.requires.placed in
    let placed : c.args.node.id < length c.self.inside.places.items = omega arith in
    let absent : node_with (values c.self.inside.slots) c.args.node.id ≡ None = subst (λ (v : NodesState). node_with v.nodes c.args.node.id ≡ None) (sym c.self.view_is) c.requires.absent in
    rw (← c.self.view_is) (found-put _ _ _ c.self.invariant _ _ placed absent c.insert_reserved-slot.ensures.was_vacant c.insert_reserved-slot.ensures.updates)

pub returns-clause-count : goal.returns-clause-count
returns-clause-count c =
    rw (← c.self.view_is) (omega (arith, length-held c.self.inside.slots.slots, length-held c.insert_reserved-slot.new.self.slots, c.insert_reserved-slot.ensures.len))
