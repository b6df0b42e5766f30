-- The node is taken, loses its child and is put back.
use Rattle.std.proofs.Common.{ap, sym, arith}
use Rattle.box_tree.specs.Kept.{with_children}
use Rattle.box_tree.specs.Taken.{without_child_at}
use Rattle.box_tree.proofs.ExchangeLemmas.{absent_at, changed_by}
use Rattle.box_tree.proofs.KeptLemmas.{id-node_with}
use Rattle.box_tree.proofs.tree.adds.take_child.Goals as goal

pub put-requires-clause-absent : goal.put-requires-clause-absent
put-requires-clause-absent c = absent_at _ _ c.args.id c.take-node.result.id c.take-node.ensures.looked_up (id-node_with c.args.nodes.now.nodes c.args.id c.take-node.result (sym c.take-node.ensures.taken))

pub put-requires-clause-placed : goal.put-requires-clause-placed
put-requires-clause-placed c = omega (arith, id-node_with c.args.nodes.now.nodes c.args.id c.take-node.result (sym c.take-node.ensures.taken), c.take-node.ensures.placed)

pub remove-requires : goal.remove-requires
remove-requires c = c.requires c.take-node.result (sym c.take-node.ensures.taken)

pub returns : goal.returns
returns c =
    let took = c.take-node.ensures in
    let put = c.put.ensures in
    let node = c.take-node.result in
    changed_by c.args.nodes.now c.take-node.new.self c.put.new.self c.args.id node (with_children c.remove.new.self node) (without_child_at c.args.place) took.taken took.looked_up took.count took.room took.ids
    (ap (λ children. with_children children node) c.remove.ensures) (id-node_with c.args.nodes.now.nodes c.args.id node (sym took.taken)) put.looked_up put.count put.room put.ids
