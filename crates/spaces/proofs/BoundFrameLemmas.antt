-- After an edit of a page that is within the bound, the page is within it where the renewed subtree is.
use Rattle.std.proofs.Common.{◌≡◌, ℕ, ◌<◌, ◌==◌, List, [], ◌∷◌, Option, Some, None, IsSomeAnd, IsTrue, Bool, true, false, if◌then◌else◌, refl, sym, ap, ◌∙◌, subst, arith}
use Rattle.std.specs.Prelude.{nat_lt, unwrap_or}
use Rattle.std.specs.Option.{option_map, option_map_or}
use Rattle.std.proofs.lemmas.Bool.{false≢true}
use Rattle.std.proofs.lemmas.Bool.Decides.{nat_tests}
use Rattle.box_tree.specs.declared.edit.Edit.{Edit}
use Rattle.box_tree.specs.declared.edit.Edit.TheVariants.{Add, Remove, Move, Place, Restyle, Reshape, Scroll, Resize, ScrollView}
use Rattle.box_tree.specs.declared.viewport.Viewport.{Viewport}
use Rattle.box_tree.specs.Containing.{Standing, standing_at}
use Rattle.box_tree.specs.Forest.{Label, Forest, End, Grow, ids_in, occurrences, Placed, EachNode}
use Rattle.box_tree.specs.Contents.{Contents, placed_of, tree_of, IsValid}
use Rattle.box_tree.specs.Edited.{edited}
use Rattle.box_tree.specs.Planned.{is_among}
use Rattle.box_tree.proofs.ForestLemmas.{single, placed_in-present}
use Rattle.box_tree.proofs.MoveLemmas.{each-placed}
use Rattle.box_tree.proofs.PlacedLemmas.{AreAtPlaces, page-at_places, found-at_places, id-placed_in}
use Rattle.box_tree.proofs.SubtreeLemmas.{is_among-ids_in, placed-at_places}
use Rattle.spaces.specs.Around.{is_bounded_by}
use Rattle.spaces.specs.Bound.{is_bounded_at, are_bounded, is_bounded}
use Rattle.box_tree.specs.Frame.{edited_node, IsFaultless, StandsApart, IsOutside}
use Rattle.spaces.specs.Table.{is_bounded_from, is_bounded_in, renewed_node}
use Rattle.spaces.proofs.CheckedLemmas.{IsBoundedBelow, each-bounded, bounded-placed}
use Rattle.box_tree.proofs.RestLemmas.{standing_of, outside-before}
use Rattle.spaces.proofs.FrameLemmas.{outside-in_rest}

-- trees of which each node is within the bound
all-bounded : (viewport : Viewport) (above : List Label) (f : Forest) → EachNode (IsBoundedBelow viewport) above f → are_bounded viewport above f ≡ true
all-bounded viewport above End each = refl
all-bounded viewport above (Grow n below others) each = rw (each.0, all-bounded viewport (n ∷ above) below each.1.0) (all-bounded viewport above others each.1.1)

-- nodes at their places in a page
each-placed_so : (page : Contents) (above : List Label) (f : Forest) → AreAtPlaces page above f → ((id : ℕ) → 0 < occurrences f id → is_bounded_by page id ≡ true) → EachNode (IsBoundedBelow page.viewport) above f
each-placed_so page above End known so = tt
each-placed_so page above (Grow n below others) known so = (
  sym (ap (λ (o : Option Placed). option_map_or (λ p. is_bounded_at page.viewport (standing_at p)) o true) known.0) ∙ so n.id (grind (arith, nat_tests)),
  (
    each-placed_so page (n ∷ above) below known.1.0 (λ id some. so id (grind (arith, some))),
    each-placed_so page above others known.1.1 (λ id some. so id (grind (arith, some))),
  ),
)

-- a node of a subtree that is within the bound
inside-bounded : (page : Contents) → IsValid page → (id x : ℕ) → is_bounded_from page id ≡ true → is_among (ids_in (tree_of page id)) x ≡ true → is_bounded_by page x ≡ true
inside-bounded page valid id x bounded inside = by_place (placed_of page id) refl
  where
    by_found : (p : Placed) → placed_of page id ≡ Some p → 0 < occurrences (single p.label p.below) x → (o : Option Placed) → placed_of page x ≡ o → option_map_or (λ q. is_bounded_at page.viewport (standing_at q)) o true ≡ true
    by_found p found some None found' = refl
    by_found p found some (Some q) found' =
        let own : are_bounded page.viewport p.above (Grow p.label p.below End) ≡ true = sym (ap (λ (o : Option Placed). option_map_or (λ r. are_bounded page.viewport r.above (Grow r.label r.below End)) o true) found) ∙ bounded in
        let there = placed-at_places page (single p.label p.below) p.above x (ap (placed_of page) (id-placed_in page.tree [] id p found) ∙ found, (found-at_places page id p valid found, tt)) some in
        (each-placed (IsBoundedBelow page.viewport) (single p.label p.below) p.above x q (each-bounded page.viewport p.above (single p.label p.below) own) (sym there ∙ found')).0

    by_place : (o : Option Placed) → placed_of page id ≡ o → is_bounded_by page x ≡ true
    by_place None found = absurd (false≢true (sym (ap (λ (o : Option Placed). is_among (ids_in (option_map_or (λ p. Grow p.label p.below End) o End)) x) found) ∙ inside))
    by_place (Some p) found =
        let test : nat_lt 0 (occurrences (single p.label p.below) x) ≡ true = sym (is_among-ids_in (single p.label p.below) x) ∙ sym (ap (λ (o : Option Placed). is_among (ids_in (option_map_or (λ q. Grow q.label q.below End) o End)) x) found) ∙ inside in
        by_found p found (grind (arith, nat_tests)) (placed_of page x) refl

-- an edit of a node leaves the viewport
viewport-kept : (page : Contents) (edit : Edit) (id : ℕ) → IsOutside page edit id → (edited page edit).viewport ≡ page.viewport
viewport-kept page (Add parent at kind boxes style) id outside = refl
viewport-kept page (Remove node) id outside = refl
viewport-kept page (Move node parent at) id outside = refl
viewport-kept page (Place node anchor boxes max) id outside = refl
viewport-kept page (Restyle node style) id outside = refl
viewport-kept page (Reshape node form) id outside = refl
viewport-kept page (Scroll node x y) id outside = refl
viewport-kept page (Resize w h max) id outside = absurd outside
viewport-kept page (ScrollView x y) id outside = absurd outside

module _ (page : Contents) (edit : Edit) (faultless : IsFaultless page edit) (bounded : IsTrue (is_bounded page)) (valid' : IsValid (edited page edit)) where
  -- a node outside of the edited one is within the bound as before
  outside-bounded : (x : ℕ) → IsOutside page edit x → is_bounded_by (edited page edit) x ≡ true
  outside-bounded x outside =
      let is = outside-in_rest page edit x faultless outside in
      by_standing (edited page edit)
      ∙ ap (λ (v : Viewport). option_map_or (is_bounded_at v) (standing_of (edited page edit) x) true) (viewport-kept page edit x outside)
      ∙ ap (λ (o : Option Standing). option_map_or (is_bounded_at page.viewport) o true) (is.as_before x is.stands)
      ∙ sym (by_standing page)
      ∙ before (placed_of page x) refl
    where
      by_standing : (p : Contents) → is_bounded_by p x ≡ option_map_or (is_bounded_at p.viewport) (standing_of p x) true
      by_standing p = by_place (placed_of p x)
        where
          by_place : (o : Option Placed) → option_map_or (λ q. is_bounded_at p.viewport (standing_at q)) o true ≡ option_map_or (is_bounded_at p.viewport) (option_map standing_at o) true
          by_place None = refl
          by_place (Some q) = refl

      before : (o : Option Placed) → placed_of page x ≡ o → option_map_or (λ q. is_bounded_at page.viewport (standing_at q)) o true ≡ true
      before None found = refl
      before (Some q) found = bounded-placed page faultless.valid bounded x q found

  module _ (node : ℕ) (node_is : edited_node page edit ≡ Some node) where
    abbrev after : Contents
    after = edited page edit

    whole-from : is_bounded_from after node ≡ true → is_bounded after ≡ true
    whole-from inside = all-bounded after.viewport [] after.tree (each-placed_so after [] after.tree (page-at_places after valid') each)
      where
        each : (x : ℕ) → 0 < occurrences after.tree x → is_bounded_by after x ≡ true
        each x some = by_test (is_among (ids_in (tree_of after node)) x) refl
          where
            by_test : (b : Bool) → is_among (ids_in (tree_of after node)) x ≡ b → is_bounded_by after x ≡ true
            by_test true is = inside-bounded after valid' node x inside is
            by_test false is =
                let stands : StandsApart after node x = record { there = placed_in-present after.tree [] x some; apart = is } in
                outside-bounded x (outside-before page edit faultless x (subst (λ (o : Option ℕ). IsSomeAnd o (λ changed. StandsApart after changed x)) (sym node_is) stands))

    from-whole : is_bounded after ≡ true → is_bounded_from after node ≡ true
    from-whole all = by_place (placed_of after node) refl
      where
        by_place : (o : Option Placed) → placed_of after node ≡ o → option_map_or (λ p. are_bounded after.viewport p.above (Grow p.label p.below End)) o true ≡ true
        by_place None found = refl
        by_place (Some p) found = all-bounded after.viewport p.above (Grow p.label p.below End) (each-placed (IsBoundedBelow after.viewport) after.tree [] node p (each-bounded after.viewport [] after.tree all) found)

    same-test : (a b : Bool) → (a ≡ true → b ≡ true) → (b ≡ true → a ≡ true) → a ≡ b
    same-test true b to from = sym (to refl)
    same-test false true to from = from refl
    same-test false false to from = refl

    node-bounded : is_bounded_in after node ≡ is_bounded after
    node-bounded = by_whole (node == 0)
      where
        by_whole : (b : Bool) → (if b then is_bounded after else is_bounded_from after node) ≡ is_bounded after
        by_whole true = refl
        by_whole false = same-test (is_bounded_from after node) (is_bounded after) whole-from from-whole

  pub bounded-after : is_bounded_in (edited page edit) (renewed_node page edit) ≡ is_bounded (edited page edit)
  bounded-after = by_node (edited_node page edit) refl
    where
      by_node : (o : Option ℕ) → edited_node page edit ≡ o → is_bounded_in (edited page edit) (unwrap_or o 0) ≡ is_bounded (edited page edit)
      by_node None is = refl
      by_node (Some node) is = node-bounded node is
