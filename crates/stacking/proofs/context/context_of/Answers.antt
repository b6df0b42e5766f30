-- Each step looks at a node of the page.
use Rattle.std.proofs.Common.{◌≡◌, ℕ, sym, ap, ◌∙◌, arith}
use Rattle.std.specs.Prelude.{if◌then◌else◌}
use Rattle.box_tree.specs.Edited.{ancestors_below}
use Rattle.box_tree.proofs.ContainingLemmas.{ancestors-fewer}
use Rattle.stacking.specs.Contexts.{nearest_context}
use Rattle.stacking.proofs.PageLemmas.{parent-there}
use Rattle.stacking.proofs.ContextLemmas.{context-start, context-step, context-none}
use Rattle.stacking.proofs.context.context_of.Goals as goal

pub loop-above-init : goal.loop-above-init
loop-above-init c = record {
  nearest = context-start c.args.page.now.contents c.validity.ensures c.args.id c.read.result.now c.read.ensures;
  there = parent-there c.args.page.now.contents c.validity.ensures c.args.id c.read.result.now c.read.ensures;
}

pub loop-above-preserved : goal.loop-above-preserved
loop-above-preserved c =
    let page = c.args.page.now.contents in
    let node = c.read-node.result.now in
    record {
      nearest = sym (context-step page c.validity.ensures c.loop-above.above node c.read-node.ensures ∙ ap (λ b. if b then c.loop-above.above else nearest_context (ancestors_below page node.parent)) (sym c.makes_context.ensures ∙ c.if-makes_context.false)) ∙ c.loop-above.invariant.nearest;
      there = parent-there page c.validity.ensures c.loop-above.above node c.read-node.ensures;
    }

pub loop-above-smaller : goal.loop-above-smaller
loop-above-smaller c = ancestors-fewer c.args.page.now.contents c.validity.ensures c.loop-above.above c.read-node.result.now c.read-node.ensures

pub returns-then-makes_context : goal.returns-then-makes_context
returns-then-makes_context c =
    let page = c.args.page.now.contents in
    let node = c.read-node.result.now in
    sym (context-step page c.validity.ensures c.loop-above.above node c.read-node.ensures ∙ ap (λ b. if b then c.loop-above.above else nearest_context (ancestors_below page node.parent)) (sym c.makes_context.ensures ∙ c.if-makes_context.true)) ∙ c.loop-above.invariant.nearest

pub returns : goal.returns
returns c =
    let page = c.args.page.now.contents in
    let zero : c.loop-above.above ≡ 0 = omega arith in
    sym (context-none page c.validity.ensures) ∙ ap (λ (above : ℕ). nearest_context (ancestors_below page above)) (sym zero) ∙ c.loop-above.invariant.nearest
