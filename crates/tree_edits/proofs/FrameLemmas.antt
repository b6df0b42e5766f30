-- An edit of a node leaves the items of each node outside of it and their bounds as they were.
use Rattle.std.proofs.Common.{◌≡◌, ℕ, [], Option, Some, None, IfSome, IsSomeAnd, refl, sym, ap, ◌∙◌}
use Rattle.std.specs.Option.{option_map, option_map_or, option_and_then}
use Rattle.fractions.specs.declared.rect.Rect.{Rect}
use Rattle.affine.specs.declared.map.Parts.{Parts}
use Rattle.affine.specs.Hull.{no_rect}
use Rattle.box_tree.specs.declared.edit.Edit.{Edit}
use Rattle.box_tree.specs.declared.item.Item.{Item}
use Rattle.box_tree.specs.declared.viewport.Viewport.{Viewport}
use Rattle.box_tree.specs.Forest.{Placed}
use Rattle.box_tree.specs.Contents.{Contents, placed_of, node_at}
use Rattle.box_tree.specs.Containing.{Standing, standing_at}
use Rattle.box_tree.specs.Edited.{edited}
use Rattle.box_tree.specs.Frame.{edited_node, IsFaultless, StandsApart, IsOutside}
use Rattle.box_tree.specs.Items.{items_of, items_at, node_items}
use Rattle.box_tree.proofs.RestLemmas.{KeepsRest, keeps-rest, standing_of}
use Rattle.spaces.specs.Spaces.{space}
use Rattle.spaces.specs.Values.{values_below}
use Rattle.spaces.proofs.FrameLemmas.{outside-in_rest}
use Rattle.tree_edits.specs.Bounds.{part_rect, local_rect, bounds_in, view_bounds}

-- the local rectangle of an item, by the standing of its node
abbrev rect_at : Item → Standing → Option Rect
rect_at item n = part_rect n.label (values_below n.above n.label) item.part

rect-by_standing : (page : Contents) (item : Item) → local_rect page item ≡ option_and_then (rect_at item) (standing_of page item.node)
rect-by_standing page item = by_place (placed_of page item.node)
  where
    by_place : (o : Option Placed) → option_and_then (λ p. part_rect p.label (values_below p.above p.label) item.part) o ≡ option_and_then (rect_at item) (option_map standing_at o)
    by_place None = refl
    by_place (Some p) = refl

-- the items of a node, by its standing
items-by_standing : (page : Contents) (id : ℕ) → node_items page id ≡ option_map_or (λ n. items_of n.label) (standing_of page id) []
items-by_standing page id = by_place (placed_of page id)
  where
    by_place : (o : Option Placed) → items_at (option_map node_at o) ≡ option_map_or (λ n. items_of n.label) (option_map standing_at o) []
    by_place None = refl
    by_place (Some p) = refl

module _ (page : Contents) (edit : Edit) (faultless : IsFaultless page edit) where
  viewport-outside : (id : ℕ) → IsOutside page edit id → (edited page edit).viewport ≡ page.viewport
  viewport-outside id outside = by_node (edited_node page edit) (keeps-rest page edit faultless) outside
    where
      by_node : (o : Option ℕ) → IfSome o (KeepsRest page (edited page edit)) → IsSomeAnd o (λ changed. StandsApart page changed id × StandsApart (edited page edit) changed id) → (edited page edit).viewport ≡ page.viewport
      by_node None keeps stands = absurd stands
      by_node (Some changed) keeps stands = keeps.viewport

  -- a node outside of the edited one has the items that it had
  pub items-outside : (id : ℕ) → IsOutside page edit id → node_items (edited page edit) id ≡ node_items page id
  items-outside id outside =
      let is = outside-in_rest page edit id faultless outside in
      items-by_standing (edited page edit) id
      ∙ ap (λ (o : Option Standing). option_map_or (λ n. items_of n.label) o []) (is.as_before id is.stands)
      ∙ sym (items-by_standing page id)

  -- and they have the bounds that they had
  pub bounds-outside : (item : Item) → IsOutside page edit item.node → view_bounds (edited page edit) item ≡ view_bounds page item
  unfolding view_bounds
  bounds-outside item outside =
      let is = outside-in_rest page edit item.node faultless outside in
      let after = edited page edit in
      let rect_is : local_rect after item ≡ local_rect page item =
      rect-by_standing after item ∙ ap (option_and_then (rect_at item)) (is.as_before item.node is.stands) ∙ sym (rect-by_standing page item) in
      ap (λ (v : Viewport). option_map_or (λ s. option_map_or (bounds_in v s) (local_rect after item) no_rect) (space after item.node) no_rect) (viewport-outside item.node outside)
      ∙ ap (λ (r : Option Rect). option_map_or (λ s. option_map_or (bounds_in page.viewport s) r no_rect) (space after item.node) no_rect) rect_is
      ∙ ap (λ (o : Option Parts). option_map_or (λ s. option_map_or (bounds_in page.viewport s) (local_rect page item) no_rect) o no_rect) (is.spaces item.node is.stands)
