-- The parent was found as a reader sees it.
use Rattle.std.proofs.Common.{sym, ap, ◌∙◌}
use Rattle.box_tree.specs.SuitsBelow.{node_suits_below as suits_below}
use Rattle.box_tree.proofs.SuitsLemmas.{node_suits-seen}
use Rattle.box_tree.proofs.tree.Tree.node_suits_below.Goals as goal

pub returns : goal.returns
returns c =
    c.node_suits.ensures
    ∙ ap (λ o. suits_below o c.args.kind c.args.style.now c.args.boxes.now) c.find.ensures
    ∙ sym (node_suits-seen c.args.self.now.contents c.args.parent c.args.kind c.args.style.now c.args.boxes.now)
