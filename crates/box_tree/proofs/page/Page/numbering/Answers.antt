-- The numbers are kept as they have to be.
use Rattle.std.proofs.Common.{subst}
use Rattle.box_tree.specs.Numbers.{IsNumberedPage}
use Rattle.box_tree.specs.PageState.{PageState}
use Rattle.box_tree.proofs.NumberedPages.{numbered_page}
use Rattle.box_tree.proofs.page.Page.numbering.Goals as goal

pub returns : goal.returns
returns c = subst (λ (page : PageState). IsNumberedPage page.contents page.items) c.self.view_is (numbered_page c.self.inside.tree.contents c.self.inside.items.items c.self.invariant c.soundness.ensures)
