-- One node after another.
use Rattle.std.proofs.Common.{◌++◌, sym, ap, ◌∙◌}
use Rattle.std.proofs.lemmas.List.{append-nil}
use Rattle.stacking.specs.Touched.{contexts_among}
use Rattle.stacking.proofs.BoxLemmas.{drop_all}
use Rattle.stacking.proofs.TouchedLemmas.{among-more}
use Rattle.stacking.proofs.changes.push_contexts.Goals as goal

pub loop-node-preserved : goal.loop-node-preserved
loop-node-preserved c = among-more c.args.page.now.contents c.args.nodes.now c.loop-node.node-index c.loop-node.ids.items _ _ c.loop-node-test.true c.in_ok-push_context.ensures c.loop-node.invariant

pub returns : goal.returns
returns c =
    sym (append-nil c.loop-node.ids.items)
    ∙ ap (λ xs. c.loop-node.ids.items ++ contexts_among c.args.page.now.contents xs) (sym (drop_all c.args.nodes.now c.loop-node.node-index c.loop-node-test.false))
    ∙ c.loop-node.invariant
