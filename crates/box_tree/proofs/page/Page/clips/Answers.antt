-- The node and its parent are those that were found.
use Rattle.std.proofs.Common.{◌≡◌, Option, Some, ap, sym, ◌∙◌}
use Rattle.std.specs.Option.{option_map, option_copied}
use Rattle.box_tree.specs.declared.node.Node.{Node}
use Rattle.box_tree.specs.Contents.{node_of}
use Rattle.box_tree.specs.Kept.{label_of}
use Rattle.box_tree.specs.Used.{is_clipping}
use Rattle.box_tree.proofs.ContainingLemmas.{clips-seen}
use Rattle.box_tree.proofs.page.Page.clips.Goals as goal

pub returns : goal.returns
returns c =
    let page = c.args.self.now.contents in
    let node = c.unwrap-node.result.now in
    let seen : node_of page c.args.id ≡ Some node = sym c.find.ensures ∙ ap option_copied c.unwrap-node.ensures in
    c.is_clipping.ensures
    ∙ ap (λ (o : Option Node). is_clipping (option_map label_of o) (label_of node)) c.find-2.ensures
    ∙ sym (clips-seen page c.validity.ensures c.args.id node seen)
