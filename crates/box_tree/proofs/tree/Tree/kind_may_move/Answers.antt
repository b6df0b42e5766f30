-- The node and the parent were found as a reader sees them.
use Rattle.std.proofs.Common.{◌≡◌, Some, sym, ap, ◌∙◌}
use Rattle.box_tree.specs.Contents.{node_of}
use Rattle.box_tree.specs.SuitsBelow.{kind_suits_below}
use Rattle.box_tree.proofs.SuitsLemmas.{kind_may_move-seen}
use Rattle.box_tree.proofs.tree.Tree.kind_may_move.Goals as goal

pub returns-in-Some : goal.returns-in-Some
returns-in-Some c =
    let page = c.args.self.now.contents in
    let node = c.in-Some.node.now in
    let seen : node_of page c.args.id ≡ Some node = sym c.in-Some.ensures in
    c.kind_suits.ensures
    ∙ ap (λ o. kind_suits_below o node.kind) c.find-in-Some.ensures
    ∙ sym (kind_may_move-seen page c.args.id c.args.parent node seen)
