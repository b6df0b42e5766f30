-- Each step looks at a node of the page, with the parent that was found for it.
use Rattle.std.proofs.Common.{Option, Bool, if◌then◌else◌, ap, sym, ◌∙◌}
use Rattle.std.specs.Option.{option_map, option_copied}
use Rattle.box_tree.specs.declared.node.Node.{Node}
use Rattle.box_tree.specs.declared.containing.Holder.TheVariants.{Node as HolderNode}
use Rattle.box_tree.specs.Containing.{may_hold, holder_among}
use Rattle.box_tree.specs.Edited.{ancestors_below}
use Rattle.box_tree.specs.Kept.{label_of}
use Rattle.box_tree.proofs.ContainingLemmas.{holder-step, ancestors-fewer, ancestors_below-unseen}
use Rattle.box_tree.proofs.page.Page.holder_from.Goals as goal

pub returns-then-may_hold : goal.returns-then-may_hold
returns-then-may_hold c =
    let page = c.args.self.now.contents in
    let node = c.in-Some.node.now in
    let told = c.may_hold.ensures ∙ ap (λ (o : Option Node). may_hold c.args.wanted (option_map label_of o) (label_of node)) c.find-in-Some.ensures in
    let step = holder-step page c.validity.ensures c.loop-node.above node (sym c.in-Some.ensures) c.args.wanted in
    sym (step ∙ ap (λ (b : Bool). if b then HolderNode c.loop-node.above else holder_among c.args.wanted (ancestors_below page node.parent)) (sym told ∙ c.if-may_hold.true)) ∙ c.loop-node.invariant

pub loop-node-preserved : goal.loop-node-preserved
loop-node-preserved c =
    let page = c.args.self.now.contents in
    let node = c.in-Some.node.now in
    let told = c.may_hold.ensures ∙ ap (λ (o : Option Node). may_hold c.args.wanted (option_map label_of o) (label_of node)) c.find-in-Some.ensures in
    let step = holder-step page c.validity.ensures c.loop-node.above node (sym c.in-Some.ensures) c.args.wanted in
    sym (step ∙ ap (λ (b : Bool). if b then HolderNode c.loop-node.above else holder_among c.args.wanted (ancestors_below page node.parent)) (sym told ∙ c.if-may_hold.false)) ∙ c.loop-node.invariant

pub loop-node-smaller : goal.loop-node-smaller
loop-node-smaller c = ancestors-fewer c.args.self.now.contents c.validity.ensures c.loop-node.above c.in-Some.node.now (sym c.in-Some.ensures)

pub returns : goal.returns
returns c = c.outermost.ensures ∙ sym (ap (holder_among c.args.wanted) (ancestors_below-unseen c.args.self.now.contents c.loop-node.above (sym c.find.ensures ∙ ap option_copied c.in_default.is))) ∙ c.loop-node.invariant
