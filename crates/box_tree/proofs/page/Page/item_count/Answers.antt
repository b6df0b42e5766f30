-- Each item has one number, and numbers are below the limit.
use Rattle.std.proofs.Common.{ap, ◌∙◌, arith}
use Rattle.box_tree.specs.Items.{item_count}
use Rattle.box_tree.specs.PageState.{PageState}
use Rattle.box_tree.proofs.ItemCount.{count_is}
use Rattle.box_tree.proofs.page.Page.item_count.Goals as goal

pub overflow_cast-result : goal.overflow_cast-result
overflow_cast-result c = omega (arith, c.count.ensures, c.soundness.ensures.count, c.soundness.ensures.most)

pub returns : goal.returns
returns c =
    c.count.ensures ∙ count_is c.self.inside.tree.contents c.validity.ensures c.self.inside.items.items c.self.invariant
    ∙ ap (λ (page : PageState). item_count page.contents.tree) c.self.view_is
