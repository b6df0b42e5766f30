use Rattle.box_tree.proofs.ExchangeLemmas.{puts_none, puts_next, puts_more}
use Rattle.box_tree.proofs.tree.removes.put_all.Goals as goal

pub loop-node-init : goal.loop-node-init
loop-node-init c = puts_none _ _ c.requires

pub put-requires-clause-absent : goal.put-requires-clause-absent
put-requires-clause-absent c = (puts_next _ _ _ _ _ c.in-Some.node c.loop-node.invariant c.in-Some.ensures.items).absent

pub put-requires-clause-placed : goal.put-requires-clause-placed
put-requires-clause-placed c = (puts_next _ _ _ _ _ c.in-Some.node c.loop-node.invariant c.in-Some.ensures.items).placed

pub loop-node-preserved : goal.loop-node-preserved
loop-node-preserved c =
    let put = c.put.ensures in
    puts_more _ _ _ _ _ _ c.in-Some.node c.loop-node.invariant c.in-Some.ensures.items put.looked_up put.count put.room put.ids
