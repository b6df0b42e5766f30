-- The climb begins at the parent of the node that was found.
use Rattle.std.proofs.Common.{◌≡◌, Some, ap, sym, ◌∙◌}
use Rattle.std.specs.Option.{option_copied}
use Rattle.box_tree.specs.declared.containing.Wanted.{Wanted}
use Rattle.box_tree.specs.Contents.{node_of}
use Rattle.box_tree.specs.Containing.{holder_among}
use Rattle.box_tree.specs.Edited.{ancestors_below}
use Rattle.box_tree.proofs.ContainingLemmas.{containing_block-seen}
use Rattle.box_tree.proofs.page.Page.containing_block.Goals as goal

pub returns : goal.returns
returns c =
    let page = c.args.self.now.contents in
    let node = c.unwrap-node.result.now in
    let seen : node_of page c.args.id ≡ Some node = sym c.find.ensures ∙ ap option_copied c.unwrap-node.ensures in
    c.holder_from.ensures
    ∙ ap (λ (wanted : Wanted). holder_among wanted (ancestors_below page node.parent)) c.sought.ensures
    ∙ sym (containing_block-seen page c.validity.ensures c.args.id node seen)
