-- A node with all below it: where it stands, its ids, and a walk over them.
use Rattle.std.proofs.Common.{◌≡◌, ◌≢◌, ◌⊎◌, ℕ, ◌+◌, ◌<◌, ◌≤◌, ◌==◌, max, List, [], ◌∷◌, ◌++◌, length, get_or, Option, Some, None, Bool, true, false, is_some, if◌then◌else◌, refl, sym, ap, ◌∙◌, subst, inl, inr, arith}
use Rattle.std.specs.Prelude.{nat_lt}
use Rattle.std.specs.Option.{option_or, option_map_or}
use Rattle.std.proofs.lemmas.List.{append-nil}
use Rattle.std.proofs.lemmas.List.Folds.{list_any-append}
use Rattle.std.proofs.lemmas.Bool.{cases_lt, cases_eq}
use Rattle.std.proofs.lemmas.Bool.Decides.{nat_tests}
use Rattle.box_tree.specs.declared.node.Node.{Node}
use Rattle.box_tree.specs.Forest.{Label, Forest, End, Grow, roots_of, ids_in, height_of, occurrences, Placed, placed_in}
use Rattle.box_tree.specs.Contents.{Contents, node_of, placed_of, tree_of, below_of, ancestor_count, has_id, parent_id, IsValid}
use Rattle.box_tree.specs.Edited.{ancestors_below}
use Rattle.box_tree.specs.Planned.{ids_without, is_among}
use Rattle.box_tree.proofs.ForestLemmas.{placed_in-head, placed_in-below, placed_in-others}
use Rattle.box_tree.proofs.PlacedLemmas.{id-placed_in, AreAtPlaces, trees_from, trees_from-all, depth-placed_in, IsSeenAt, seen_at, IsChildAt, child_at}

-- where a node was found: at the head, or below it, or in the other trees
pub data Found (n : Label) (below others : Forest) (above : List Label) (id : ℕ) (p : Placed) : Type 0 where
  Head : n.id ≡ id → p ≡ record { label = n; above = above; below = below } → Found n below others above id p
  Deeper : n.id ≢ id → placed_in (n ∷ above) below id ≡ Some p → Found n below others above id p
  Beside : n.id ≢ id → placed_in above others id ≡ Some p → Found n below others above id p

pub found_in : (n : Label) (below others : Forest) (above : List Label) (id : ℕ) (p : Placed) → placed_in above (Grow n below others) id ≡ Some p → Found n below others above id p
found_in n below others above id p is = by_test (n.id == id) refl is
  where
    in_parts : n.id ≢ id → (first : Option Placed) → placed_in (n ∷ above) below id ≡ first → option_or first (placed_in above others id) ≡ Some p → Found n below others above id p
    in_parts other None first_is found = Beside other found
    in_parts other (Some q) first_is found = Deeper other (first_is ∙ found)

    by_test : (same : Bool) → (n.id == id) ≡ same → (if same then Some (record { label = n; above = above; below = below }) else option_or (placed_in (n ∷ above) below id) (placed_in above others id)) ≡ Some p → Found n below others above id p
    by_test true same_is found = Head (grind (arith, nat_tests)) cc
    by_test false same_is found = in_parts (grind (arith, nat_tests)) (placed_in (n ∷ above) below id) refl found

-- the first of some ancestors is a node of the page, with the others as its ancestors
pub record IsAbove (page : Contents) (above : List Label) : Type 0 where
  pub label : Label
  pub others : List Label
  pub below : Forest
  pub above_is : above ≡ label ∷ others
  pub found : placed_of page label.id ≡ Some (record { label = label; above = others; below = below })

-- a node of the trees is one at their head, or its parent is in the page
pub parent_above : (page : Contents) (f : Forest) (above : List Label) (id : ℕ) (p : Placed) → AreAtPlaces page above f → placed_in above f id ≡ Some p →
    ((is_among (roots_of f) id ≡ true) × (p.above ≡ above)) ⊎ IsAbove page p.above
parent_above page End above id p known found = absurd cc
parent_above page (Grow n below others) above id p known found = elim (found_in n below others above id p found) [
  | Head here is ↦ inl (grind (arith, nat_tests), ap (λ (q : Placed). q.above) is)
  | Deeper other is ↦ elim (parent_above page below (n ∷ above) id p known.1.0 is) [
    | inl at_head ↦ inr (record { label = n; others = above; below = below; above_is = at_head.1; found = known.0 })
    | inr there ↦ inr there
  ]
  | Beside other is ↦ elim (parent_above page others above id p known.1.1 is) [
    | inl at_head ↦ inl (grind (arith, nat_tests, at_head.0), at_head.1)
    | inr there ↦ inr there
  ]
]

pub parent_there : (page : Contents) (f : Forest) (above : List Label) (id : ℕ) (p : Placed) → AreAtPlaces page above f → placed_in above f id ≡ Some p →
    ((is_among (roots_of f) id ≡ true) × (p.above ≡ above)) ⊎ (has_id page (parent_id p.above) ≡ true)
parent_there page f above id p known found = elim (parent_above page f above id p known found) [
  | inl at_head ↦ inl at_head
  | inr is ↦ inr (ap (λ a. has_id page (parent_id a)) is.above_is ∙ ap is_some is.found)
]

-- a place in the page is that among trees which are at their places
pub placed-at_places : (page : Contents) (f : Forest) (above : List Label) (id : ℕ) → AreAtPlaces page above f → 0 < occurrences f id → placed_of page id ≡ placed_in above f id
placed-at_places page End above id known some = absurd (omega arith)
placed-at_places page (Grow n below others) above id known some = elim (cases_eq n.id id) [
  | inl here ↦ ap (placed_of page) (sym here) ∙ known.0 ∙ sym (placed_in-head n below others above) ∙ ap (placed_in above (Grow n below others)) here
  | inr other ↦ elim (cases_lt 0 (occurrences below id)) [
    | inl deeper ↦ placed-at_places page below (n ∷ above) id known.1.0 deeper ∙ sym (placed_in-below n below others above id other deeper)
    | inr few ↦
        let beside : 0 < occurrences others id = grind (arith, nat_tests) in
        placed-at_places page others above id known.1.1 beside ∙ sym (placed_in-others n below others above id other (omega (arith, few)))
  ]
]

-- the tree of a node is no higher than the trees in which it stands
pub height-placed_in : (f : Forest) (above : List Label) (id : ℕ) (p : Placed) → placed_in above f id ≡ Some p → length p.above + height_of (Grow p.label p.below End) ≤ length above + height_of f
height-placed_in End above id p found = absurd cc
height-placed_in (Grow n below others) above id p found = elim (found_in n below others above id p found) [
  | Head here is ↦ rw is (omega arith)
  | Deeper other is ↦ omega (arith, height-placed_in below (n ∷ above) id p is)
  | Beside other is ↦ omega (arith, height-placed_in others above id p is)
]

-- in a valid page no tree is higher than the page may be, and no node has more ancestors
module _ (page : Contents) (valid : IsValid page) (id : ℕ) where
  pub height-tree_of : height_of (tree_of page id) ≤ 256
  height-tree_of = by_place (placed_of page id) refl
    where
      by_place : (o : Option Placed) → placed_of page id ≡ o → height_of (option_map_or (λ p. Grow p.label p.below End) o End) ≤ 256
      by_place None is = omega arith
      by_place (Some p) is = omega (arith, height-placed_in page.tree [] id p is, valid.depth)

  pub length-ancestors_below-most : length (ancestors_below page id) ≤ 256
  length-ancestors_below-most = by_place (placed_of page id) refl
    where
      by_place : (o : Option Placed) → placed_of page id ≡ o → length (option_map_or (λ p. p.label ∷ p.above) o []) ≤ 256
      by_place None is = omega arith
      by_place (Some p) is = omega (arith, height-placed_in page.tree [] id p is, valid.depth)

-- a node whose parent is another one is no child here
pub no_child : (page : Contents) (f : Forest) (above : List Label) (id : ℕ) (q : Placed) → AreAtPlaces page above f → placed_of page id ≡ Some q → parent_id q.above ≢ parent_id above → ids_without id (roots_of f) ≡ roots_of f
no_child page End above id q known found other = refl
no_child page (Grow n below others) above id q known found other = elim (cases_eq n.id id) [
  | inl here ↦ absurd (other (same_above here))
  | inr apart ↦ grind (arith, nat_tests, no_child page others above id q known.1.1 found other)
]
  where
    same_above : n.id ≡ id → parent_id q.above ≡ parent_id above
    same_above here =
        let is : Some q ≡ Some (record { label = n; above = above; below = below }) = sym found ∙ ap (placed_of page) (sym here) ∙ known.0 in
        let q_is : q ≡ record { label = n; above = above; below = below } = cc in
        ap (λ (p : Placed). parent_id p.above) q_is

-- the ids of trees are those that stand in them
pub is_among-ids_in : (f : Forest) (id : ℕ) → is_among (ids_in f) id ≡ nat_lt 0 (occurrences f id)
is_among-ids_in End id = refl
is_among-ids_in (Grow n below others) id = rw (list_any-append (λ other. other == id) (ids_in below) (ids_in others), is_among-ids_in below id, is_among-ids_in others id) (grind (arith, nat_tests))

ids_in-cons : (n : Label) (below others : Forest) → ids_in (Grow n below others) ≡ ids_in (Grow n below End) ++ ids_in others
ids_in-cons n below others = rw (append-nil (ids_in below)) refl

module _ (page : Contents) (valid : IsValid page) (id : ℕ) (node : Node) (seen : node_of page id ≡ Some node) where
  pub at_place : IsSeenAt page id node
  at_place = seen_at page id node seen

  abbrev pub place : Placed
  place = at_place.place

  pub tree_of-seen : tree_of page id ≡ Grow place.label place.below End
  tree_of-seen = ap (λ o. option_map_or (λ p. Grow p.label p.below End) o End) at_place.found

  pub below_of-seen : below_of page id ≡ place.below
  below_of-seen = ap (λ o. option_map_or (λ p. p.below) o End) at_place.found

  pub ancestor_count-seen : ancestor_count page id ≡ length place.above
  ancestor_count-seen = ap (λ o. length (option_map_or (λ p. p.above) o [])) at_place.found

  pub few_ancestors : ancestor_count page id ≤ 255
  few_ancestors = omega (arith, ancestor_count-seen, depth-placed_in page.tree [] id place at_place.found, valid.depth)

  pub children_is : node.children ≡ roots_of place.below
  children_is = ap (λ (n : Node). n.children) (sym at_place.node_is)

  -- the walk has the node itself first, and then all below it
  pub ids-start : id ∷ ids_in (below_of page id) ≡ ids_in (tree_of page id)
  ids-start = rw (below_of-seen, tree_of-seen, append-nil (ids_in place.below)) (ap (λ k. k ∷ ids_in place.below) (sym (id-placed_in page.tree [] id place at_place.found)))

  module _ (k child d : ℕ) (within : k < length node.children) (is : get_or node.children k d ≡ child) where
    pub the_child : IsChildAt page place k child
    the_child = child_at page id place k child d valid at_place.found (subst (λ (ids : List ℕ). k < length ids) children_is within) (subst (λ (ids : List ℕ). get_or ids k d ≡ child) children_is is)

    pub ancestor_count-child : ancestor_count page child ≡ 1 + ancestor_count page id
    ancestor_count-child =
        let count = ap (λ (o : Option Placed). length (option_map_or (λ p. p.above) o [])) the_child.found in
        omega (arith, count, ancestor_count-seen)

    -- the ids of the children from this one on are those of its tree, and of the trees after it
    pub ids-step : ids_in (trees_from k (below_of page id)) ≡ ids_in (tree_of page child) ++ ids_in (trees_from (k + 1) (below_of page id))
    ids-step =
        let tree_is = ap (λ (o : Option Placed). option_map_or (λ p. Grow p.label p.below End) o End) the_child.found in
        rw (below_of-seen, the_child.trees_are, tree_is) (ids_in-cons the_child.label the_child.below (trees_from (k + 1) place.below))

  -- no child is left after the last
  pub ids-end : (k : ℕ) → length node.children ≤ k → ids_in (trees_from k (below_of page id)) ≡ []
  ids-end k all = rw below_of-seen (ap ids_in (trees_from-all place.below k (subst (λ (ids : List ℕ). length ids ≤ k) children_is all)))

  -- the levels of the tree of a node are one more than those of the trees below it
  pub levels-whole : height_of (tree_of page id) ≡ height_of (below_of page id) + 1
  levels-whole = rw (below_of-seen, tree_of-seen) (omega arith)

  module _ (k child d : ℕ) (within : k < length node.children) (is : get_or node.children k d ≡ child) where
    -- the trees of the children from this one on have the levels of its tree or of the trees after it
    pub levels-step : height_of (trees_from k (below_of page id)) ≡ max (height_of (tree_of page child)) (height_of (trees_from (k + 1) (below_of page id)))
    levels-step =
        let child_is = the_child k child d within is in
        let tree_is = ap (λ (o : Option Placed). option_map_or (λ p. Grow p.label p.below End) o End) child_is.found in
        rw (below_of-seen, child_is.trees_are, tree_is) (omega arith)

  pub levels-end : (k : ℕ) → length node.children ≤ k → height_of (trees_from k (below_of page id)) ≡ 0
  levels-end k all = rw below_of-seen (ap height_of (trees_from-all place.below k (subst (λ (ids : List ℕ). length ids ≤ k) children_is all)))
