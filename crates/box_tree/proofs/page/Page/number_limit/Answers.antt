-- A number that an item has was given, and there are fewer numbers than the limit.
use Rattle.std.proofs.Common.{◌<◌, arith, subst}
use Rattle.std.proofs.lemmas.Option.{slice_get_within}
use Rattle.box_tree.specs.Numbers.{IsNumber}
use Rattle.box_tree.specs.PageState.{PageState}
use Rattle.box_tree.proofs.page.Page.number_limit.Goals as goal

pub overflow_cast-result : goal.overflow_cast-result
overflow_cast-result c = omega (arith, c.given_count.ensures, c.soundness.ensures.most)

pub returns-clause-below : goal.returns-clause-below
returns-clause-below c number =
    let given = c.self.inside.items.items.given in
    subst (λ (page : PageState). IsNumber page.items number → number < c.given_count.result) c.self.view_is
    (λ is. omega (arith, c.given_count.ensures, slice_get_within given number is.0 is.1.given_to))
