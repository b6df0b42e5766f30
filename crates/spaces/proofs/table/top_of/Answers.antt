-- The whole page is the tree of its root.
use Rattle.std.proofs.Common.{ap, ◌∙◌}
use Rattle.spaces.specs.Table.{subtree_of, is_bounded_in}
use Rattle.spaces.proofs.OutsideLemmas.{top-root}
use Rattle.spaces.proofs.table.top_of.Goals as goal

pub returns-then-subtree-eq0-clause-there : goal.returns-then-subtree-eq0-clause-there
returns-then-subtree-eq0-clause-there c = (top-root c.args.page.now.contents c.requires c.root.result c.root.ensures.root).there

pub returns-then-subtree-eq0-clause-subtree : goal.returns-then-subtree-eq0-clause-subtree
returns-then-subtree-eq0-clause-subtree c =
    ap (subtree_of c.args.page.now.contents) c.if-subtree-eq0.true ∙ (top-root c.args.page.now.contents c.requires c.root.result c.root.ensures.root).tree_is

pub returns-then-subtree-eq0-clause-bounded : goal.returns-then-subtree-eq0-clause-bounded
returns-then-subtree-eq0-clause-bounded c =
    ap (is_bounded_in c.args.page.now.contents) c.if-subtree-eq0.true ∙ (top-root c.args.page.now.contents c.requires c.root.result c.root.ensures.root).bounded_is
