-- The element of one item, by its node as a reader sees it.
use Rattle.std.proofs.Common.{◌≡◌, ℕ, ℤ, List, [], ◌∷◌, map, Option, Some, None, IsSome, Bool, true, false, cond, if◌then◌else◌, refl, sym, ap, ◌∙◌}
use Rattle.std.specs.Prelude.{◌&&◌}
use Rattle.std.specs.Option.{option_map, option_map_or}
use Rattle.computed_style.specs.declared.inherited.Inherited.{Inherited}
use Rattle.box_tree.specs.declared.item.Item.{Item}
use Rattle.box_tree.specs.declared.node.Node.{Node}
use Rattle.box_tree.specs.Forest.{Label, Placed}
use Rattle.box_tree.specs.Contents.{Contents, node_of, parent_id}
use Rattle.box_tree.specs.Kept.{label_of}
use Rattle.box_tree.proofs.PlacedLemmas.{IsSeenAt, seen_at}
use Rattle.spaces.specs.declared.space.FinePoint.{FinePoint}
use Rattle.spaces.specs.declared.table.entry.Entry.{Entry}
use Rattle.spaces.specs.Spaces.{local_point}
use Rattle.spaces.specs.Table.{entry_of, entry_under, local_point_under, IsTableOf}
use Rattle.spaces.specs.Values.{values_below, values}
use Rattle.spaces.proofs.TableFrameLemmas.{entry-values, entry-local_point}
use Rattle.scroll_clip.specs.Clips.{inside_clips}
use Rattle.point_query.specs.ImageMaps.{area_at, area_under}
use Rattle.point_query.specs.Elements.{element_as, element_of, part_admits, row_holds, admits, elements_of}

-- an item is admitted where its row holds at the local point, where there is one, and the point is inside the clips; then it
-- gives the element of its node
pub elements_of-seen : (page : Contents) (x y : ℤ) (item : Item) (node : Node) (at : Option FinePoint) (inherited : Inherited) →
    node_of page item.node ≡ Some node → local_point page item.node x y ≡ at → values page item.node ≡ Some inherited →
    elements_of page x y (item ∷ []) ≡ (if option_map_or (λ a. part_admits (label_of node) inherited a item.part) at false && inside_clips page item.node x y then element_as node.kind node.parent node.id (area_under page (label_of node) at) ∷ [] else [])
elements_of-seen page x y item node at inherited seen at_is values_are =
    ap (λ b. map (element_of page x y) (cond b (item ∷ []) [])) admitted ∙ by_test (option_map_or (λ a. part_admits (label_of node) inherited a item.part) at false && inside_clips page item.node x y)
  where
    place_is : IsSeenAt page item.node node
    place_is = seen_at page item.node node seen

    told : Some (values_below place_is.place.above place_is.place.label) ≡ Some inherited
    told = sym (ap (λ (o : Option Placed). option_map (λ p. values_below p.above p.label) o) place_is.found) ∙ values_are

    inherited_is : values_below place_is.place.above place_is.place.label ≡ inherited
    inherited_is = let t = told in cc

    row : row_holds page x y item ≡ option_map_or (λ a. part_admits (label_of node) inherited a item.part) at false
    row =
        ap (λ (o : Option Placed). option_map_or (λ p. option_map_or (λ a. part_admits p.label (values_below p.above p.label) a item.part) (local_point page item.node x y) false) o false) place_is.found
        ∙ ap (λ (o : Option FinePoint). option_map_or (λ a. part_admits place_is.place.label (values_below place_is.place.above place_is.place.label) a item.part) o false) at_is
        ∙ ap (λ (v : Inherited). option_map_or (λ a. part_admits place_is.place.label v a item.part) at false) inherited_is
        ∙ ap (λ (l : Label). option_map_or (λ a. part_admits l inherited a item.part) at false) (ap label_of place_is.node_is)

    admitted : admits page x y item ≡ (option_map_or (λ a. part_admits (label_of node) inherited a item.part) at false && inside_clips page item.node x y)
    admitted = ap (λ (b : Bool). b && inside_clips page item.node x y) row

    element_is : element_of page x y item ≡ element_as node.kind node.parent node.id (area_under page (label_of node) at)
    element_is =
        ap (λ (o : Option Placed). option_map_or (λ p. element_as p.label.kind (parent_id p.above) p.label.id (area_under page p.label (local_point page item.node x y))) o item.node) place_is.found
        ∙ ap (λ (o : Option FinePoint). element_as place_is.place.label.kind (parent_id place_is.place.above) place_is.place.label.id (area_under page place_is.place.label o)) at_is
        ∙ ap (λ (n : Node). element_as n.kind n.parent n.id (area_under page (label_of n) at)) place_is.node_is

    by_test : (held : Bool) → map (element_of page x y) (cond held (item ∷ []) []) ≡ (if held then element_as node.kind node.parent node.id (area_under page (label_of node) at) ∷ [] else [])
    by_test true = ap (λ (e : ℕ). e ∷ []) element_is
    by_test false = refl

-- what the table of the page has of the node of the item
module _ (table : List (Option Entry)) (page : Contents) (is : IsTableOf table page) (item : Item) (inherited : Inherited) (values_are : option_map (λ entry. entry.values) (entry_under table item.node) ≡ Some inherited) where
  kept : option_map (λ entry. entry.values) (entry_of page item.node) ≡ Some inherited
  kept = ap (option_map (λ entry. entry.values)) (sym (is item.node)) ∙ values_are

  -- its values are those of the node
  values-kept : values page item.node ≡ Some inherited
  values-kept = sym (entry-values page item.node (there (entry_of page item.node) kept)) ∙ kept
    where
      there : (o : Option Entry) → option_map (λ entry. entry.values) o ≡ Some inherited → IsSome o
      there None none = cc
      there (Some entry) some = refl

  -- and its local point is that of the page
  pub elements_of-kept : (x y : ℤ) (node : Node) (at : FinePoint) → node_of page item.node ≡ Some node → Some at ≡ local_point_under table item.node x y →
      elements_of page x y (item ∷ []) ≡ (if part_admits (label_of node) inherited at item.part && inside_clips page item.node x y then element_as node.kind node.parent node.id (area_at page (label_of node) at) ∷ [] else [])
  elements_of-kept x y node at seen at_is =
      elements_of-seen page x y item node (Some at) inherited seen (sym (at_is ∙ entry-local_point table page item.node x y is)) values-kept
