-- The whole page is the tree of its root.
use Rattle.std.proofs.Common.{ap, ◌∙◌}
use Rattle.spaces.specs.Table.{subtree_of}
use Rattle.spaces.proofs.OutsideLemmas.{top-root}
use Rattle.tree_edits.proofs.reach.top_of.Goals as goal

pub returns-then-subtree-eq0 : goal.returns-then-subtree-eq0
returns-then-subtree-eq0 c =
    ap (subtree_of c.args.page.now.contents) c.if-subtree-eq0.true ∙ (top-root c.args.page.now.contents c.requires c.root.result c.root.ensures.root).tree_is
