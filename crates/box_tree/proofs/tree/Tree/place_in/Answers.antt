-- No node is deeper than 256.
use Rattle.std.proofs.Common.{ap, ◌∙◌, sym, arith}
use Rattle.std.specs.Option.{option_map_or}
use Rattle.box_tree.specs.declared.node.Node.{Node}
use Rattle.box_tree.proofs.PlanLemmas.{length-ancestors_below}
use Rattle.box_tree.proofs.SubtreeLemmas.{length-ancestors_below-most}
use Rattle.box_tree.proofs.tree.Tree.place_in.Goals as goal

pub overflow_add-result : goal.overflow_add-result
overflow_add-result c =
    let page = c.args.self.now.contents in
    let depth_is = c.seat_below.ensures.depth ∙ ap (λ o. option_map_or (λ (n : Node). n.depth) o 0) c.find-in-Some.ensures ∙ sym (length-ancestors_below page c.args.parent) in
    omega (arith, depth_is, length-ancestors_below-most page c.requires.valid c.args.parent)
