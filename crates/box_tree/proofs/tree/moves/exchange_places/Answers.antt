-- Other children of the parents leave the depths.
use Rattle.box_tree.specs.Kept.{node_with}
use Rattle.box_tree.proofs.ExchangeLemmas.{may_relocate_changed}
use Rattle.box_tree.proofs.tree.moves.exchange_places.Goals as goal

pub relocate_all-requires : goal.relocate_all-requires
relocate_all-requires c =
    may_relocate_changed c.args.place c.args.ids.now (node_with c.give_children-siblings.new.nodes.nodes) (node_with c.give_children-children.new.nodes.nodes) c.args.place.parent c.args.children
    (may_relocate_changed c.args.place c.args.ids.now (node_with c.args.nodes.now.nodes) (node_with c.give_children-siblings.new.nodes.nodes) c.args.place.from c.args.siblings c.requires c.give_children-siblings.ensures.changed.looked_up)
    c.give_children-children.ensures.changed.looked_up
