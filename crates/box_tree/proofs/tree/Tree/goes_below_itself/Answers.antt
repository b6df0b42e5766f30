-- A climb from the new parent meets the moved node just where it is in the moved tree.
use Rattle.std.proofs.Common.{ap, sym, ◌∙◌}
use Rattle.std.specs.Prelude.{nat_lt}
use Rattle.std.specs.Option.{option_copied}
use Rattle.box_tree.specs.Contents.{tree_of}
use Rattle.box_tree.specs.Forest.{occurrences}
use Rattle.box_tree.proofs.ContainingLemmas.{ancestors-fewer}
use Rattle.box_tree.proofs.MoveLemmas.{climbs, climbed, climbed_out}
use Rattle.box_tree.proofs.tree.Tree.goes_below_itself.Goals as goal

pub loop-node-preserved : goal.loop-node-preserved
loop-node-preserved c = climbs c.args.self.now.contents c.validity.ensures c.args.id c.requires c.loop-node.above c.in-Some.node.now (sym c.in-Some.ensures) c.if-above-id.false ∙ c.loop-node.invariant

pub returns-then-above-id : goal.returns-then-above-id
returns-then-above-id c =
    sym (climbed c.args.self.now.contents c.validity.ensures c.args.id c.requires)
    ∙ ap (λ k. nat_lt 0 (occurrences (tree_of c.args.self.now.contents c.args.id) k)) (sym c.if-above-id.true) ∙ c.loop-node.invariant

pub loop-node-smaller : goal.loop-node-smaller
loop-node-smaller c = ancestors-fewer c.args.self.now.contents c.validity.ensures c.loop-node.above c.in-Some.node.now (sym c.in-Some.ensures)

pub returns : goal.returns
returns c = sym (climbed_out c.args.self.now.contents c.validity.ensures c.args.id c.loop-node.above (sym c.find.ensures ∙ ap option_copied c.in_default.is)) ∙ c.loop-node.invariant
