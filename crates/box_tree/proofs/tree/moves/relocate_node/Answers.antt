-- The node is taken, relocated and put back.
use Rattle.std.proofs.Common.{ap, sym, ◌∙◌, arith}
use Rattle.box_tree.specs.declared.node.Node.{Node}
use Rattle.box_tree.specs.Planned.{relocated}
use Rattle.box_tree.proofs.ExchangeLemmas.{absent_at, changed_by}
use Rattle.box_tree.proofs.KeptLemmas.{id-node_with}
use Rattle.box_tree.proofs.tree.moves.relocate_node.Goals as goal

pub reseat-requires : goal.reseat-requires
reseat-requires c = c.requires c.take-node.result (sym c.take-node.ensures.taken)

pub put-requires-clause-absent : goal.put-requires-clause-absent
put-requires-clause-absent c =
    let node = c.take-node.result in
    absent_at _ _ c.args.id c.reseat.new.node.id c.take-node.ensures.looked_up
    (ap (λ (n : Node). n.id) c.reseat.ensures ∙ id-node_with c.args.nodes.now.nodes c.args.id node (sym c.take-node.ensures.taken))

pub put-requires-clause-placed : goal.put-requires-clause-placed
put-requires-clause-placed c =
    let node = c.take-node.result in
    omega (arith, ap (λ (n : Node). n.id) c.reseat.ensures, id-node_with c.args.nodes.now.nodes c.args.id node (sym c.take-node.ensures.taken), c.take-node.ensures.placed)

pub returns : goal.returns
returns c =
    let took = c.take-node.ensures in
    let put = c.put.ensures in
    let node = c.take-node.result in
    changed_by c.args.nodes.now c.take-node.new.self c.put.new.self c.args.id node c.reseat.new.node (relocated c.args.place) took.taken took.looked_up took.count took.room took.ids
    c.reseat.ensures
    (ap (λ (n : Node). n.id) c.reseat.ensures ∙ id-node_with c.args.nodes.now.nodes c.args.id node (sym took.taken)) put.looked_up put.count put.room put.ids
