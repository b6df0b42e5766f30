-- The table leads from the id to the slot of its node.
use Rattle.std.proofs.Common.{◌≡◌, Some, None, sym, ◌∙◌}
use Rattle.box_tree.specs.Slots.{slot_of}
use Rattle.box_tree.proofs.NodesLemmas.{found-nowhere, found-at}
use Rattle.box_tree.proofs.nodes.Nodes.find.Goals as goal

pub returns-in-Some : goal.returns-in-Some
returns-in-Some c =
    let leads : slot_of c.self.inside.places.items c.args.id ≡ Some c.in-Some.slot = rw (← c.deref.ensures.value) (sym c.in-Some.ensures) in
    rw (← c.self.view_is) (c.get.ensures ∙ sym (found-at _ _ c.self.invariant c.args.id _ leads))

pub returns-in-None : goal.returns-in-None
returns-in-None c =
    let nowhere : slot_of c.self.inside.places.items c.args.id ≡ None = rw (← c.deref.ensures.value) (sym c.in-None.ensures) in
    rw (← c.self.view_is) (sym (found-nowhere _ _ c.self.invariant c.args.id nowhere))
