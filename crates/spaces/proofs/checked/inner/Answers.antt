-- The padding corner, the scroll, and then the viewBox.
use Rattle.std.proofs.Common.{Option, sym, ap, ◌++◌, ◌∙◌}
use Rattle.std.specs.Option.{option_map, option_copied}
use Rattle.affine.specs.declared.map.Parts.{Parts}
use Rattle.box_tree.specs.Kept.{label_of}
use Rattle.spaces.specs.Spaces.{padding_corner, scroll_factor, view_factor}
use Rattle.spaces.specs.Checked.{checked_products}
use Rattle.spaces.proofs.ProductLemmas.{checked-append}
use Rattle.spaces.proofs.checked.inner.Goals as goal

pub returns : goal.returns
returns c =
    let n = label_of c.args.node.now in
    let parent = option_map label_of (option_copied c.args.parent) in
    let view = view_factor n in
    let scroll = scroll_factor parent n in
    c.viewed.ensures
    ∙ ap (λ (o : Option Parts). checked_products o view) (c.some_product-scrolled.ensures ∙ ap (checked_products c.some_product-cornered.result) c.scroll_factor.ensures)
    ∙ ap (λ (o : Option Parts). checked_products (checked_products o scroll) view) (c.some_product-cornered.ensures ∙ ap (checked_products c.args.space) c.padding_corner.ensures)
    ∙ sym (checked-append (checked_products c.args.space (padding_corner n)) scroll view)
    ∙ sym (checked-append c.args.space (padding_corner n) (scroll ++ view))
