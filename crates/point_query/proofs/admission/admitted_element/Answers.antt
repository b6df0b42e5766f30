-- The row of the item holds at the local point of its node and the point is inside the clips, or not.
use Rattle.std.proofs.Common.{◌≡◌, ℕ, [], ◌∷◌, Some, Bool, if◌then◌else◌, sym, ap, ◌∙◌, arith}
use Rattle.std.specs.Prelude.{◌&&◌}
use Rattle.std.proofs.lemmas.Int.{ints}
use mir.Syntax.{w64}
use mir.Val.{to_z, of_z}
use Rattle.scroll_clip.proofs.ClipLemmas.{curves-seen, form-seen}
use Rattle.scroll_clip.specs.Clips.{inside_clips}
use Rattle.box_tree.specs.Kept.{label_of}
use Rattle.spaces.specs.Table.{entry_under, local_point_under}
use Rattle.tree_edits.proofs.BoundsLemmas.{width-entered}
use Rattle.point_query.specs.Elements.{element_as}
use Rattle.point_query.specs.ImageMaps.{area_at}
use Rattle.point_query.proofs.AdmissionLemmas.{elements_of-kept}
use Rattle.point_query.proofs.BoundLemmas.{holders-depth, areas-seen}
use Rattle.point_query.proofs.admission.admitted_element.Goals as goal

pub part_admits-requires-clause-curves : goal.part_admits-requires-clause-curves
part_admits-requires-clause-curves g c = curves-seen c.args.page.now.contents c.validity.ensures c.args.item.node c.node-node.result.now c.node-node.ensures.node

pub part_admits-requires-clause-form : goal.part_admits-requires-clause-form
part_admits-requires-clause-form g c = form-seen c.args.page.now.contents c.validity.ensures c.args.item.node c.node-node.result.now c.node-node.ensures.node

pub part_admits-requires-clause-width : goal.part_admits-requires-clause-width
part_admits-requires-clause-width g c =
    width-entered c.args.page.now.contents c.args.item (entry_under c.args.spaces.now c.args.item.node) (c.requires.table c.args.item.node) c.values_of-values.result.now c.values_of-values.ensures.values c.validity.ensures

pub element_of-requires : goal.element_of-requires
element_of-requires g c = curves-seen c.args.page.now.contents c.validity.ensures c.args.item.node c.node-node.result.now c.node-node.ensures.node

pub returns-then-not-part_admits-clause-element : goal.returns-then-not-part_admits-clause-element
returns-then-not-part_admits-clause-element g c =
    let page = c.args.page.now.contents in
    let node = c.node-node.result.now in
    let x_is : to_z w64 (of_z w64 c.args.x) ≡ c.args.x = omega (arith, ints) in
    let y_is : to_z w64 (of_z w64 c.args.y) ≡ c.args.y = omega (arith, ints) in
    let at_is : Some c.in_ok-at.at ≡ local_point_under c.args.spaces.now c.args.item.node c.args.x c.args.y = rw (x_is, y_is) at c.in_ok-at.ensures.value in
    sym (elements_of-kept c.args.spaces.now page c.requires.table c.args.item c.values_of-values.result.now c.values_of-values.ensures.values c.args.x c.args.y node c.in_ok-at.at c.node-node.ensures.node at_is
    ∙ ap (λ (held : Bool). if held && inside_clips page c.args.item.node c.args.x c.args.y then element_as node.kind node.parent node.id (area_at page (label_of node) c.in_ok-at.at) ∷ [] else []) (sym c.part_admits.ensures ∙ c.if-not-part_admits.true))

pub returns-then-not-inside_clips-clause-element : goal.returns-then-not-inside_clips-clause-element
returns-then-not-inside_clips-clause-element g c =
    let page = c.args.page.now.contents in
    let node = c.node-node.result.now in
    let x_is : to_z w64 (of_z w64 c.args.x) ≡ c.args.x = omega (arith, ints) in
    let y_is : to_z w64 (of_z w64 c.args.y) ≡ c.args.y = omega (arith, ints) in
    let at_is : Some c.in_ok-at.at ≡ local_point_under c.args.spaces.now c.args.item.node c.args.x c.args.y = rw (x_is, y_is) at c.in_ok-at.ensures.value in
    let inside = rw (x_is, y_is) at c.inside_clips.ensures.inside in
    sym (elements_of-kept c.args.spaces.now page c.requires.table c.args.item c.values_of-values.result.now c.values_of-values.ensures.values c.args.x c.args.y node c.in_ok-at.at c.node-node.ensures.node at_is
    ∙ ap (λ (held : Bool). if held && inside_clips page c.args.item.node c.args.x c.args.y then element_as node.kind node.parent node.id (area_at page (label_of node) c.in_ok-at.at) ∷ [] else []) (sym c.part_admits.ensures ∙ c.if-not-part_admits.false)
    ∙ ap (λ (held : Bool). if held then element_as node.kind node.parent node.id (area_at page (label_of node) c.in_ok-at.at) ∷ [] else []) (sym inside ∙ c.if-not-inside_clips.true))

pub returns-clause-element : goal.returns-clause-element
returns-clause-element g c =
    let page = c.args.page.now.contents in
    let node = c.node-node.result.now in
    let x_is : to_z w64 (of_z w64 c.args.x) ≡ c.args.x = omega (arith, ints) in
    let y_is : to_z w64 (of_z w64 c.args.y) ≡ c.args.y = omega (arith, ints) in
    let at_is : Some c.in_ok-at.at ≡ local_point_under c.args.spaces.now c.args.item.node c.args.x c.args.y = rw (x_is, y_is) at c.in_ok-at.ensures.value in
    let inside = rw (x_is, y_is) at c.inside_clips.ensures.inside in
    sym (elements_of-kept c.args.spaces.now page c.requires.table c.args.item c.values_of-values.result.now c.values_of-values.ensures.values c.args.x c.args.y node c.in_ok-at.at c.node-node.ensures.node at_is
    ∙ ap (λ (held : Bool). if held && inside_clips page c.args.item.node c.args.x c.args.y then element_as node.kind node.parent node.id (area_at page (label_of node) c.in_ok-at.at) ∷ [] else []) (sym c.part_admits.ensures ∙ c.if-not-part_admits.false)
    ∙ ap (λ (held : Bool). if held then element_as node.kind node.parent node.id (area_at page (label_of node) c.in_ok-at.at) ∷ [] else []) (sym inside ∙ c.if-not-inside_clips.false)
    ∙ ap (λ (element : ℕ). element ∷ []) (sym c.element_of.ensures.element))

pub returns-then-not-inside_clips-clause-cost : goal.returns-then-not-inside_clips-clause-cost
returns-then-not-inside_clips-clause-cost g c =
    let page = c.args.page.now.contents in
    omega (arith, c.in_ok-at.ensures.step, c.values_of-values.ensures.step, c.node-node.ensures.step, c.inside_clips.ensures.cost, holders-depth page c.args.item.node)

pub returns-clause-cost : goal.returns-clause-cost
returns-clause-cost g c =
    let page = c.args.page.now.contents in
    omega (
      arith,
      c.in_ok-at.ensures.step,
      c.values_of-values.ensures.step,
      c.node-node.ensures.step,
      c.inside_clips.ensures.cost,
      c.element_of.ensures.cost,
      holders-depth page c.args.item.node,
      areas-seen page c.args.item.node c.node-node.result.now c.node-node.ensures.node,
    )
