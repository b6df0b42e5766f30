-- One factor, the functions, and one factor more.
use Rattle.std.proofs.Common.{Option, sym, ap, ◌∙◌}
use Rattle.std.specs.Prelude.{map, pos, neg_ℤ, ◌+ℤ◌, ◌*ℤ◌}
use Rattle.affine.specs.declared.map.Parts.{Parts}
use Rattle.affine.specs.Map.{translation}
use Rattle.affine.specs.Function.{function_map}
use Rattle.spaces.specs.Checked.{then_product, checked_products}
use Rattle.spaces.proofs.ProductLemmas.{checked-between}
use Rattle.spaces.proofs.checked.transformed.Goals as goal

pub returns : goal.returns
returns c =
    let functions = map function_map c.args.node.now.style.transform in
    let d = c.args.doubled in
    let anchor = c.args.node.now.anchor in
    let first = translation (pos 2 *ℤ anchor.x +ℤ d.x) (pos 2 *ℤ anchor.y +ℤ d.y) (pos 2) in
    let last = translation (neg_ℤ d.x) (neg_ℤ d.y) (pos 2) in
    c.product.ensures
    ∙ ap (λ (m : Parts). then_product c.after_functions-turned.result m) c.from_origin.ensures
    ∙ ap (λ (o : Option Parts). then_product o last) (c.after_functions-turned.ensures ∙ ap (λ (o : Option Parts). checked_products o functions) (c.product-moved.ensures ∙ ap (then_product c.args.around) c.to_origin.ensures))
    ∙ sym (checked-between c.args.around first last functions)
