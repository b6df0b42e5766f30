-- The slot that the id leads to is cleared, and the id leads nowhere.
use Rattle.std.proofs.Common.{◌≡◌, Some, IsSome, sym, subst, ◌∙◌, arith}
use Rattle.slab.specs.Slab.{values}
use Rattle.box_tree.specs.Kept.{node_with}
use Rattle.box_tree.specs.Nodes.{NodesState}
use Rattle.box_tree.specs.Slots.{slot_of}
use Rattle.box_tree.proofs.NodesLemmas.{length-held, leads-somewhere, holds-some, found-at, led-take, found-take}
use Rattle.box_tree.proofs.nodes.Nodes.take.Goals as goal

pub unwrap-slot-requires : goal.unwrap-slot-requires
unwrap-slot-requires c =
    let there : IsSome (node_with (values c.self.inside.slots) c.args.id) = subst (λ (v : NodesState). IsSome (node_with v.nodes c.args.id)) (sym c.self.view_is) c.requires in
    rw (c.slot_at.ensures, c.deref.ensures.value) (leads-somewhere _ _ c.self.invariant c.args.id there)

pub remove-requires : goal.remove-requires
remove-requires c =
    let there : IsSome (node_with (values c.self.inside.slots) c.args.id) = subst (λ (v : NodesState). IsSome (node_with v.nodes c.args.id)) (sym c.self.view_is) c.requires in
    let leads : slot_of c.self.inside.places.items c.args.id ≡ Some c.unwrap-slot.result = cc in
    holds-some _ _ c.self.invariant c.args.id _ leads there

pub invariant_of-self : goal.invariant_of-self
invariant_of-self c =
    let leads : slot_of c.self.inside.places.items c.args.id ≡ Some c.unwrap-slot.result = cc in
    led-take _ _ _ c.self.invariant _ _ leads c.remove.ensures.updates

pub returns-clause-taken : goal.returns-clause-taken
returns-clause-taken c =
    let leads : slot_of c.self.inside.places.items c.args.id ≡ Some c.unwrap-slot.result = cc in
    rw (← c.self.view_is) (sym c.remove.ensures.value ∙ sym (found-at _ _ c.self.invariant c.args.id _ leads))

pub returns-clause-looked_up : goal.returns-clause-looked_up
returns-clause-looked_up c =
    let leads : slot_of c.self.inside.places.items c.args.id ≡ Some c.unwrap-slot.result = cc in
    rw (← c.self.view_is) (found-take _ _ _ c.self.invariant _ _ leads c.remove.ensures.updates)

pub returns-clause-count : goal.returns-clause-count
returns-clause-count c =
    rw (← c.self.view_is) (omega (arith, length-held c.self.inside.slots.slots, length-held c.remove.new.self.slots, c.remove.ensures.len))

pub returns-clause-fits : goal.returns-clause-fits
returns-clause-fits c = omega (arith, length-held c.remove.new.self.slots, c.remove.ensures.room)
