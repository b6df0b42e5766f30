-- The node is taken, gets its child and is put back.
use Rattle.std.proofs.Common.{◌≤◌, length, ap, sym, subst, arith}
use Rattle.box_tree.specs.Kept.{with_children}
use Rattle.box_tree.specs.declared.node.Node.{Node}
use Rattle.std.specs.Option.{option_map_or}
use Rattle.box_tree.specs.Planned.{with_child_at, HasSpareFor}
use Rattle.box_tree.proofs.ExchangeLemmas.{absent_at, changed_by}
use Rattle.box_tree.proofs.KeptLemmas.{id-node_with}
use Rattle.box_tree.proofs.tree.adds.give_child.Goals as goal

pub put-requires-clause-absent : goal.put-requires-clause-absent
put-requires-clause-absent c = absent_at _ _ c.args.id c.take-node.result.id c.take-node.ensures.looked_up (id-node_with c.args.nodes.now.nodes c.args.id c.take-node.result (sym c.take-node.ensures.taken))

pub put-requires-clause-placed : goal.put-requires-clause-placed
put-requires-clause-placed c = omega (arith, id-node_with c.args.nodes.now.nodes c.args.id c.take-node.result (sym c.take-node.ensures.taken), c.take-node.ensures.placed)

pub insert-requires-clause-within : goal.insert-requires-clause-within
insert-requires-clause-within c = subst (λ o. c.args.place ≤ option_map_or (λ (n : Node). length n.children) o c.args.place) (sym c.take-node.ensures.taken) c.requires.within

pub insert-requires-clause-spare : goal.insert-requires-clause-spare
insert-requires-clause-spare c = subst (λ o. HasSpareFor o c.args.spare) (sym c.take-node.ensures.taken) c.requires.spare_fits

pub returns : goal.returns
returns c =
    let took = c.take-node.ensures in
    let put = c.put.ensures in
    let node = c.take-node.result in
    changed_by c.args.nodes.now c.take-node.new.self c.put.new.self c.args.id node (with_children c.insert.new.self node) (with_child_at c.args.place c.args.child) took.taken took.looked_up took.count took.room took.ids
    (ap (λ children. with_children children node) c.insert.ensures) (id-node_with c.args.nodes.now.nodes c.args.id node (sym took.taken)) put.looked_up put.count put.room put.ids
