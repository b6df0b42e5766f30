-- The nodes of a valid page by their ids: their places, their parents, and what is gathered from their children.
use Rattle.std.proofs.Common.{◌≡◌, ◌≢◌, ℕ, ◌+◌, ◌<◌, ◌≤◌, ◌^◌, List, [], ◌∷◌, ◌++◌, length, get_or, Option, Some, None, true, is_some, inl, inr, refl, sym, ap, ◌∙◌, subst, arith}
use Rattle.std.specs.List.{flat_map}
use Rattle.std.specs.Option.{option_map, option_map_or}
use Rattle.box_tree.specs.declared.node.Node.{Node}
use Rattle.box_tree.specs.declared.piece.Piece.{Piece}
use Rattle.box_tree.specs.Forest.{Label, Placed}
use Rattle.box_tree.specs.Contents.{Contents, node_at, node_of, placed_of, has_id, ancestors_of, parent_id, IsValid, IsGiven, IsSuited}
use Rattle.box_tree.specs.Kept.{label_of}
use Rattle.box_tree.proofs.PlacedLemmas.{id-placed_in, trees_from, trees_from-all, IsChildAt, page-at_places}
use Rattle.box_tree.proofs.SubtreeLemmas.{at_place, place, the_child, children_is, parent_above, IsAbove}
use Rattle.box_tree.proofs.MoveLemmas.{each-placed}
use Rattle.box_tree.specs.Containing.{parent_of}
use Rattle.stacking.specs.Painting.{Share, at, share_of, shares_of, shares_in}
use Rattle.stacking.specs.OnPage.{of_node}

-- what is gathered from the children from one on
abbrev pub gathered_from : {A : Type 0} → (Share → List A) → ℕ → Placed → List A
gathered_from of_share k p = flat_map of_share (shares_of (p.label ∷ p.above) (trees_from k p.below))

-- what is gathered from a node itself
abbrev pub shared : {A : Type 0} → (Share → List A) → Placed → List A
shared of_share p = of_share (share_of p (shares_in p))

module _ (page : Contents) (valid : IsValid page) (id : ℕ) (node : Node) (seen : node_of page id ≡ Some node) where
  abbrev pub here : Placed
  here = place page valid id node seen

  found : placed_of page id ≡ Some here
  found = (at_place page valid id node seen).found

  pub of_node-seen : {A : Type 0} (walk : Placed → List A) → of_node walk page id ≡ walk here
  of_node-seen walk = ap (λ o. option_map_or walk o []) found

  pub label-seen : label_of node ≡ here.label
  label-seen = ap label_of (sym (at_place page valid id node seen).node_is)

  pub ancestors-seen : ancestors_of page id ≡ here.above
  ancestors-seen = ap (λ o. option_map_or (λ p. p.above) o []) found

  -- the parent of a node is 0 for the root, and else in the page
  pub root-seen : node.parent ≡ 0 → parent_of (ancestors_of page id) ≡ None
  root-seen is = rw ancestors-seen (by_above here.above refl)
    where
      by_above : (above : List Label) → here.above ≡ above → parent_of above ≡ None
      by_above [] above_is = refl
      by_above (parent ∷ above) above_is = elim (parent_above page page.tree [] id here (page-at_places page valid) found) [
        | inl at_head ↦ absurd (let e : parent ∷ above ≡ [] = sym above_is ∙ at_head.1 in cc)
        | inr there ↦
            let given = (each-placed (IsGiven page.next) page.tree [] there.label.id _ valid.given there.found).0 in
            let same : parent_id here.above ≡ there.label.id = ap parent_id there.above_is in
            let parent_is : node.parent ≡ parent_id here.above = ap (λ (n : Node). n.parent) (sym (at_place page valid id node seen).node_is) in
            absurd (omega (arith, given.positive, same, parent_is, is))
      ]

  parent_is_above : node.parent ≢ 0 → IsAbove page here.above
  parent_is_above other = elim (parent_above page page.tree [] id here (page-at_places page valid) found) [
    | inl at_head ↦
        let parent_is : node.parent ≡ parent_id here.above = ap (λ (n : Node). n.parent) (sym (at_place page valid id node seen).node_is) in
        absurd (other (parent_is ∙ ap parent_id at_head.1))
    | inr there ↦ there
  ]

  parent_id-seen : node.parent ≡ parent_id here.above
  parent_id-seen = ap (λ (n : Node). n.parent) (sym (at_place page valid id node seen).node_is)

  pub parent-there : node.parent ≢ 0 → has_id page node.parent ≡ true
  parent-there other =
      let above = parent_is_above other in
      ap (has_id page) (parent_id-seen ∙ ap parent_id above.above_is) ∙ ap is_some above.found

  pub parent-seen : node.parent ≢ 0 → (parent : Node) → node_of page node.parent ≡ Some parent → parent_of (ancestors_of page id) ≡ Some (label_of parent)
  parent-seen other parent seen' =
      let above = parent_is_above other in
      let seen'' : Some (node_at (record { label = above.label; above = above.others; below = above.below })) ≡ Some parent =
      sym (ap (option_map node_at) (ap (placed_of page) (parent_id-seen ∙ ap parent_id above.above_is) ∙ above.found)) ∙ seen' in
      let same : node_at (record { label = above.label; above = above.others; below = above.below }) ≡ parent = cc in
      ancestors_parent ∙ ap parent_of above.above_is ∙ ap (λ n. Some (label_of n)) same
    where
      ancestors_parent : parent_of (ancestors_of page id) ≡ parent_of here.above
      ancestors_parent = ap parent_of ancestors-seen

  module _ (k child d : ℕ) (in_list : k < length node.children) (is : get_or node.children k d ≡ child) where
    abbrev child_is : IsChildAt page here k child
    child_is = the_child page valid id node seen k child d in_list is

    abbrev pub child_place : Placed
    child_place = record { label = child_is.label; above = here.label ∷ here.above; below = child_is.below }

    pub child-there : has_id page child ≡ true
    child-there = ap is_some child_is.found

    pub of_node-child : {A : Type 0} (walk : Placed → List A) → of_node walk page child ≡ walk child_place
    of_node-child walk = ap (λ o. option_map_or walk o []) child_is.found

    -- what is gathered from this child on is gathered from it, and from those after it
    pub gathered-step : {A : Type 0} (of_share : Share → List A) → of_node (gathered_from of_share k) page id ≡ of_node (shared of_share) page child ++ of_node (gathered_from of_share (k + 1)) page id
    gathered-step of_share =
        of_node-seen (gathered_from of_share k)
        ∙ ap (λ f. flat_map of_share (shares_of (here.label ∷ here.above) f)) child_is.trees_are
        ∙ ap (λ xs. xs ++ gathered_from of_share (k + 1) here) (sym (of_node-child (shared of_share)))
        ∙ ap (λ xs. of_node (shared of_share) page child ++ xs) (sym (of_node-seen (gathered_from of_share (k + 1))))

    -- a word asked of the parent and the child as they are read
    pub role-seen : {A : Type 0} (word : Option Label → Label → A) (inner : Node) → node_of page child ≡ Some inner → word (Some (label_of node)) (label_of inner) ≡ at word child_place
    role-seen word inner seen' =
        let seen'' : Some (node_at child_place) ≡ Some inner = sym (ap (option_map node_at) child_is.found) ∙ seen' in
        let same : node_at child_place ≡ inner = cc in
        ap (λ (n : Label). word (Some n) (label_of inner)) label-seen ∙ ap (λ (n : Node). word (Some here.label) (label_of n)) (sym same)

    pub child_label-seen : (inner : Node) → node_of page child ≡ Some inner → label_of inner ≡ child_place.label
    child_label-seen inner seen' =
        let seen'' : Some (node_at child_place) ≡ Some inner = sym (ap (option_map node_at) child_is.found) ∙ seen' in
        let same : node_at child_place ≡ inner = cc in
        ap label_of (sym same)

    pub id-child : child_place.label.id ≡ child
    id-child = id-placed_in page.tree [] child child_place child_is.found

  pub gathered-end : {A : Type 0} (of_share : Share → List A) (k : ℕ) → length node.children ≤ k → of_node (gathered_from of_share k) page id ≡ []
  gathered-end of_share k all = of_node-seen (gathered_from of_share k)
      ∙ ap (λ f. flat_map of_share (shares_of (here.label ∷ here.above) f)) (trees_from-all here.below k (subst (λ (ids : List ℕ). length ids ≤ k) (children_is page valid id node seen) all))

  -- a node has no more boxes than can be numbered
  pub few_boxes : length node.boxes < 2 ^ 32
  few_boxes =
      let suited = (each-placed IsSuited page.tree [] id here valid.suited found).0 in
      let boxes_are : node.boxes ≡ here.label.boxes = ap (λ (n : Node). n.boxes) (sym (at_place page valid id node seen).node_is) in
      omega (arith, ap (λ (boxes : List Piece). length boxes) boxes_are, suited.box_count)
