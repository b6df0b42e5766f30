-- A factor is within the bound, being a map, and the product is there exactly where it is too.
use Rattle.std.proofs.Common.{◌≡◌, Some, None, true, sym, ap, ◌∙◌}
use Rattle.affine.specs.Map.{product}
use Rattle.spaces.specs.Bound.{is_within_bound}
use Rattle.spaces.specs.Checked.{then_product}
use Rattle.spaces.proofs.BoundLemmas.{test-from, within-or_none}
use Rattle.spaces.proofs.ProductLemmas.{then-within}
use Rattle.spaces.proofs.checked.product.Goals as goal

pub returns-in-Some : goal.returns-in-Some
returns-in-Some c =
    let inner = c.args.inner.now in
    let factor : is_within_bound inner ≡ true = test-from inner c.parts-within.ensures.map.bound in
    within-or_none c.compose.result (product c.in-Some.outer inner) c.compose.ensures.bound c.compose.ensures.value
    ∙ sym (ap (λ o. then_product o inner) c.in-Some.is ∙ then-within (Some c.in-Some.outer) inner factor)

pub returns-in-None : goal.returns-in-None
returns-in-None c =
    let inner = c.args.inner.now in
    let factor : is_within_bound inner ≡ true = test-from inner c.parts-within.ensures.map.bound in
    sym (ap (λ o. then_product o inner) c.in-None.is ∙ then-within None inner factor)
