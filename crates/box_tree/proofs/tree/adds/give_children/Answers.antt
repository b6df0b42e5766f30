-- The node is taken, gets its children and is put back.
use Rattle.std.proofs.Common.{ap, sym, arith}
use Rattle.box_tree.specs.Kept.{with_children}
use Rattle.box_tree.proofs.ExchangeLemmas.{absent_at, changed_by}
use Rattle.box_tree.proofs.KeptLemmas.{id-node_with}
use Rattle.box_tree.proofs.tree.adds.give_children.Goals as goal

pub put-requires-clause-absent : goal.put-requires-clause-absent
put-requires-clause-absent c = absent_at _ _ c.args.id c.take-node.result.id c.take-node.ensures.looked_up (id-node_with c.args.nodes.now.nodes c.args.id c.take-node.result (sym c.take-node.ensures.taken))

pub put-requires-clause-placed : goal.put-requires-clause-placed
put-requires-clause-placed c = omega (arith, id-node_with c.args.nodes.now.nodes c.args.id c.take-node.result (sym c.take-node.ensures.taken), c.take-node.ensures.placed)

pub returns-clause-changed : goal.returns-clause-changed
returns-clause-changed c =
    let took = c.take-node.ensures in
    let put = c.put.ensures in
    let node = c.take-node.result in
    changed_by c.args.nodes.now c.take-node.new.self c.put.new.self c.args.id node (with_children c.replace-had.new.dest node) (with_children c.args.children) took.taken took.looked_up took.count took.room took.ids
    (ap (λ children. with_children children node) c.replace-had.ensures.after) (id-node_with c.args.nodes.now.nodes c.args.id node (sym took.taken)) put.looked_up put.count put.room put.ids
