-- The nodes outside of a subtree, whose entries stand in the table, and those of the subtree, whose entries a walk writes.
use Rattle.std.proofs.Common.{◌≡◌, ℕ, ◌<◌, ◌≤◌, List, [], ◌∷◌, length, Option, Some, None, IsSome, IfSome, is_some, IsTrue, IsFalse, Bool, true, false, if◌then◌else◌, refl, sym, ap, ◌∙◌, subst, inl, inr, arith}
use Rattle.std.specs.Prelude.{nat_lt, ◌&&◌}
use Rattle.std.specs.List.{list_all}
use Rattle.std.specs.Option.{option_map, option_map_or, option_and_then, option_to_list}
use Rattle.std.proofs.lemmas.Bool.{cases_lt}
use Rattle.std.proofs.lemmas.Bool.Decides.{nat_tests}
use Rattle.affine.specs.declared.map.Parts.{Parts}
use Rattle.box_tree.specs.declared.node.Node.{Node}
use Rattle.box_tree.specs.Forest.{Label, Forest, End, Grow, roots_of, ids_in, occurrences, Placed, placed_in}
use Rattle.box_tree.specs.Contents.{Contents, node_of, placed_of, ancestors_of, tree_of, has_id, IsValid, IsGiven}
use Rattle.box_tree.specs.Containing.{Standing, parent_of, may_hold, containing_block_chain, standing_at}
use Rattle.box_tree.specs.Edited.{ancestors_below}
use Rattle.box_tree.specs.Kept.{label_of}
use Rattle.box_tree.specs.Planned.{is_among}
use Rattle.box_tree.proofs.ForestLemmas.{placed_in-absent, placed_in-head}
use Rattle.box_tree.proofs.MoveLemmas.{each-placed}
use Rattle.box_tree.proofs.PlacedLemmas.{AreAtPlaces, found-at_places, id-placed_in, seen_at}
use Rattle.box_tree.proofs.SubtreeLemmas.{Head, Deeper, Beside, found_in, placed-at_places, is_among-ids_in}
use Rattle.box_tree.proofs.TakenLemmas.{occurrences-parted}
use Rattle.box_tree.proofs.ContainingLemmas.{AreAncestors, standing, label-seen, parent-seen, ancestors-seen, above-seen, stand-seen}
use Rattle.box_tree.specs.declared.containing.Wanted.{Wanted}
use Rattle.spaces.specs.declared.table.entry.Entry.{Entry}
use Rattle.spaces.specs.Around.{place_among, written, written_from, AreEntered}
use Rattle.spaces.specs.Bound.{are_bounded, is_bounded}
use Rattle.spaces.specs.Checked.{checked_products}
use Rattle.spaces.specs.Spaces.{is_laid_out, shows, inner_factors, space_of, space_along, space}
use Rattle.spaces.specs.Table.{entry_at, entry_placed, entry_of, entry_under, subtree_of, is_in_subtree, new_entry, renewed_entry, FitsIn, is_bounded_from, is_bounded_in}
use Rattle.spaces.proofs.WalkLemmas.{root-there}
use Rattle.spaces.proofs.WrittenLemmas.{written-once}

-- a node of trees below some ancestors has no fewer than these
above-placed_in : (f : Forest) (above : List Label) (id : ℕ) (p : Placed) → placed_in above f id ≡ Some p → length above ≤ length p.above
above-placed_in End above id p found = absurd cc
above-placed_in (Grow n below others) above id p found = elim (found_in n below others above id p found) [
  | Head here is ↦ rw is (omega arith)
  | Deeper other is ↦ omega (arith, above-placed_in below (n ∷ above) id p is)
  | Beside other is ↦ above-placed_in others above id p is
]

module _ (page : Contents) (valid : IsValid page) (id : ℕ) (node : Node) (seen : node_of page id ≡ Some node) where
  abbrev here : Placed
  here = (seen_at page id node seen).place

  found : placed_of page id ≡ Some here
  found = (seen_at page id node seen).found

  tree-here : tree_of page id ≡ Grow here.label here.below End
  tree-here = ap (λ (o : Option Placed). option_map_or (λ p. Grow p.label p.below End) o End) found

  -- the tree of the node, whose nodes are at their places
  tree-places : AreAtPlaces page here.above (Grow here.label here.below End)
  tree-places = (ap (placed_of page) (id-placed_in page.tree [] id here found) ∙ found, (found-at_places page id here valid found, tt))

  -- no node with fewer ancestors is in it
  fewer-apart : (n : Label) (above : List Label) (below : Forest) → placed_of page n.id ≡ Some (record { label = n; above = above; below = below }) → length above < length here.above → is_among (ids_in (tree_of page id)) n.id ≡ false
  fewer-apart n above below found' fewer =
      ap (λ (f : Forest). is_among (ids_in f) n.id) tree-here
      ∙ is_among-ids_in (Grow here.label here.below End) n.id
      ∙ elim (cases_lt 0 (occurrences (Grow here.label here.below End) n.id)) [
        | inl some ↦
            let inside = sym (placed-at_places page (Grow here.label here.below End) here.above n.id tree-places some) ∙ found' in
            absurd (omega (arith, fewer, above-placed_in (Grow here.label here.below End) here.above n.id _ inside))
        | inr none ↦ grind (arith, nat_tests)
      ]

  -- the entries of its ancestors stand in a table that has those of the nodes outside of its tree
  module _ (table : List (Option Entry)) (outside : (x : ℕ) → IsFalse (is_among (ids_in (tree_of page id)) x) → IsSome (entry_of page x) → entry_under table x ≡ entry_of page x) where
    entered-all : (above : List Label) → AreAncestors page above → length above ≤ length here.above → AreEntered table page above
    entered-all [] stand few = tt
    entered-all (n ∷ above) stand few = (outside n.id (fewer-apart n above stand.0.below stand.0.found (omega arith)), entered-all above stand.1 (omega arith))

    pub entered-above : AreEntered table page (ancestors_below page node.parent)
    entered-above = subst (λ (above : List Label). AreEntered table page above) (sym (above-seen page valid id node seen)) (entered-all here.above (stand-seen page valid id node seen) (omega arith))

  -- what the ancestors above the node hand down, by the node itself
  pub above-parent : ancestors_below page node.parent ≡ ancestors_of page id
  above-parent = above-seen page valid id node seen ∙ sym (ap (λ (o : Option Placed). option_map_or (λ p. p.above) o []) found)

  -- one step up: the node holds what seeks this, or passes it on
  module _ (wanted : Wanted) where
    place-here : place_among page.viewport wanted (ancestors_below page id) ≡ (if may_hold wanted (option_map label_of (node_of page node.parent)) (label_of node) then checked_products (space page id) (inner_factors (option_map label_of (node_of page node.parent)) (label_of node)) else place_among page.viewport wanted (ancestors_below page node.parent))
    place-here =
        let n : Standing = standing page valid id node seen in
        ap (place_among page.viewport wanted) (ancestors-seen page valid id node seen)
        ∙ ap (λ (o : Option Parts). if may_hold wanted (parent_of n.above) n.label then checked_products o (inner_factors (parent_of n.above) n.label) else place_among page.viewport wanted n.above) (sym (ap (option_and_then (λ p. space_of page.viewport (standing_at p))) found))
        ∙ ap (λ (o : Option Label). if may_hold wanted o n.label then checked_products (space page id) (inner_factors o n.label) else place_among page.viewport wanted n.above) (sym (parent-seen page valid id node seen))
        ∙ ap (λ (l : Label). if may_hold wanted (option_map label_of (node_of page node.parent)) l then checked_products (space page id) (inner_factors (option_map label_of (node_of page node.parent)) l) else place_among page.viewport wanted n.above) (sym (label-seen page valid id node seen))
        ∙ ap (λ (above : List Label). if may_hold wanted (option_map label_of (node_of page node.parent)) (label_of node) then checked_products (space page id) (inner_factors (option_map label_of (node_of page node.parent)) (label_of node)) else place_among page.viewport wanted above) (sym (above-seen page valid id node seen))

    pub place-holds : may_hold wanted (option_map label_of (node_of page node.parent)) (label_of node) ≡ true → checked_products (space page id) (inner_factors (option_map label_of (node_of page node.parent)) (label_of node)) ≡ place_among page.viewport wanted (ancestors_below page id)
    place-holds it = sym (place-here ∙ ap (λ (b : Bool). if b then checked_products (space page id) (inner_factors (option_map label_of (node_of page node.parent)) (label_of node)) else place_among page.viewport wanted (ancestors_below page node.parent)) it)

    pub place-passes : may_hold wanted (option_map label_of (node_of page node.parent)) (label_of node) ≡ false → place_among page.viewport wanted (ancestors_below page node.parent) ≡ place_among page.viewport wanted (ancestors_below page id)
    place-passes it = sym (place-here ∙ ap (λ (b : Bool). if b then checked_products (space page id) (inner_factors (option_map label_of (node_of page node.parent)) (label_of node)) else place_among page.viewport wanted (ancestors_below page node.parent)) it)

  -- the space of a node whose entry stands in the table
  pub space-entered : (table : List (Option Entry)) → AreEntered table page (ancestors_below page id) → (if is_laid_out node.kind then option_and_then (λ entry. entry.space) (entry_under table id) else None) ≡ space page id
  space-entered table entered =
      ap (λ (l : Label). if is_laid_out l.kind then option_and_then (λ entry. entry.space) (entry_under table id) else None) (label-seen page valid id node seen)
      ∙ by_kind (is_laid_out here.label.kind) refl
      ∙ sym (ap (option_and_then (λ p. space_of page.viewport (standing_at p))) found)
    where
      entry-here : entry_of page id ≡ entry_placed page.viewport here
      entry-here = ap (option_and_then (entry_placed page.viewport)) found

      entered-here : IsSome (entry_of page id) → entry_under table id ≡ entry_of page id
      entered-here = subst (λ (k : ℕ). IsSome (entry_of page k) → entry_under table k ≡ entry_of page k) (id-placed_in page.tree [] id here found) (subst (λ (nodes : List Label). AreEntered table page nodes) (ancestors-seen page valid id node seen) entered).0

      by_kind : (b : Bool) → is_laid_out here.label.kind ≡ b → (if b then option_and_then (λ entry. entry.space) (entry_under table id) else None) ≡ space_of page.viewport (standing_at here)
      by_kind true is =
          let some : entry_of page id ≡ Some (entry_at page.viewport (standing_at here)) = entry-here ∙ ap (λ (b : Bool). if b then Some (entry_at page.viewport (standing_at here)) else None) is in
          ap (option_and_then (λ entry. entry.space)) (entered-here (ap is_some some) ∙ some)
      by_kind false is = sym (ap (λ (b : Bool). if b && list_all shows here.above then Some (space_along page.viewport (standing_at here) (containing_block_chain (standing_at here))) else None) is)

  pub entered-parent : (table : List (Option Entry)) → AreEntered table page (ancestors_below page id) → AreEntered table page (ancestors_below page node.parent)
  entered-parent table entered = subst (λ (nodes : List Label). AreEntered table page nodes) (sym (above-seen page valid id node seen)) (subst (λ (nodes : List Label). AreEntered table page nodes) (ancestors-seen page valid id node seen) entered).1

  -- what the walk over its tree writes where nothing was
  pub written-tree : (x : ℕ) → written_from page id x None ≡ (if is_among (ids_in (tree_of page id)) x then entry_of page x else None)
  written-tree x =
      ap (λ (above : List Label). written page.viewport above (tree_of page id) x None) above-is
      ∙ ap (λ (f : Forest). written page.viewport here.above f x None) tree-is
      ∙ written-once page.viewport tree here.above x once
      ∙ elim (cases_lt 0 (occurrences tree x)) [
        | inl some ↦
            let is : nat_lt 0 (occurrences tree x) ≡ true = grind (arith, nat_tests) in
            ap (option_and_then (entry_placed page.viewport)) (sym (placed-at_places page tree here.above x tree-places some))
            ∙ sym (ap (λ (b : Bool). if b then entry_of page x else None) (among ∙ is))
        | inr none ↦
            let is : nat_lt 0 (occurrences tree x) ≡ false = grind (arith, nat_tests) in
            ap (option_and_then (entry_placed page.viewport)) (placed_in-absent tree here.above x (omega (arith, none)))
            ∙ sym (ap (λ (b : Bool). if b then entry_of page x else None) (among ∙ is))
      ]
    where
      tree : Forest
      tree = Grow here.label here.below End

      tree-is : tree_of page id ≡ tree
      tree-is = tree-here

      above-is : ancestors_of page id ≡ here.above
      above-is = ap (λ (o : Option Placed). option_map_or (λ p. p.above) o []) found

      among : is_among (ids_in (tree_of page id)) x ≡ nat_lt 0 (occurrences tree x)
      among = ap (λ (f : Forest). is_among (ids_in f) x) tree-is ∙ is_among-ids_in tree x

      once : occurrences tree x ≤ 1
      once = omega (arith, occurrences-parted page.tree [] id x (valid.distinct id), ap (λ (f : Forest). occurrences f x) tree-is, valid.distinct x)

-- the ids of entries were given
pub entry-given : (page : Contents) → IsValid page → (id : ℕ) → IsSome (entry_of page id) → id < page.next
entry-given page valid id some = by_place (placed_of page id) refl some
  where
    by_place : (o : Option Placed) → placed_of page id ≡ o → IsSome (option_and_then (entry_placed page.viewport) o) → id < page.next
    by_place None found some' = absurd cc
    by_place (Some p) found some' =
        let given : IsGiven page.next p.above p.label = (each-placed (IsGiven page.next) page.tree [] id p valid.given found).0 in
        let same = id-placed_in page.tree [] id p found in
        omega (arith, given.below_next, same)

-- so new entries fit below the next id
pub fits-renewed : (page : Contents) → IsValid page → (subtree room : ℕ) (change : List (ℕ × Entry)) → ((id : ℕ) → new_entry change id ≡ renewed_entry page subtree id) → page.next ≤ room → FitsIn room change
fits-renewed page valid subtree room change is most id some =
    let given = entry-given page valid id (by_test (is_in_subtree page subtree id) (ap is_some (sym (is id)) ∙ some)) in
    omega (arith, given, most)
  where
    by_test : (b : Bool) → IsSome (if b then entry_of page id else None) → IsSome (entry_of page id)
    by_test true some' = some'
    by_test false some' = absurd cc

-- the whole page is the tree of its root
pub root-subtree : (page : Contents) → IsValid page → (root : ℕ) → roots_of page.tree ≡ root ∷ [] → page.tree ≡ tree_of page root
root-subtree page valid root is = of_tree page.tree is
  where
    of_tree : (tree : Forest) → roots_of tree ≡ root ∷ [] → tree ≡ option_map_or (λ p. Grow p.label p.below End) (placed_in [] tree root) End
    of_tree End is' = absurd cc
    of_tree (Grow n below End) is' =
        let same : n.id ≡ root = cc in
        sym (ap (λ (o : Option Placed). option_map_or (λ p. Grow p.label p.below End) o End) (ap (λ (id : ℕ). placed_in [] (Grow n below End) id) (sym same) ∙ placed_in-head n below End []))
    of_tree (Grow n below (Grow m firsts others)) is' = absurd cc

pub root-bounded : (page : Contents) → IsValid page → (root : ℕ) → roots_of page.tree ≡ root ∷ [] → is_bounded page ≡ is_bounded_from page root
root-bounded page valid root is = of_tree page.tree is
  where
    of_tree : (tree : Forest) → roots_of tree ≡ root ∷ [] → are_bounded page.viewport [] tree ≡ option_map_or (λ p. are_bounded page.viewport p.above (Grow p.label p.below End)) (placed_in [] tree root) true
    of_tree End is' = absurd cc
    of_tree (Grow n below End) is' =
        let same : n.id ≡ root = cc in
        sym (ap (λ (o : Option Placed). option_map_or (λ p. are_bounded page.viewport p.above (Grow p.label p.below End)) o true) (ap (λ (id : ℕ). placed_in [] (Grow n below End) id) (sym same) ∙ placed_in-head n below End []))
    of_tree (Grow n below (Grow m firsts others)) is' = absurd cc

pub rootless-tree : (page : Contents) → roots_of page.tree ≡ [] → page.tree ≡ End
rootless-tree page is = of_tree page.tree is
  where
    of_tree : (tree : Forest) → roots_of tree ≡ [] → tree ≡ End
    of_tree End is' = refl
    of_tree (Grow n below others) is' = absurd cc

-- an id of no node has no tree, and nothing in it passes the bound
pub absent-tree : (page : Contents) (id : ℕ) → has_id page id ≡ false → (tree_of page id ≡ End) × (is_bounded_from page id ≡ true)
absent-tree page id absent = by_place (placed_of page id) absent
  where
    by_place : (o : Option Placed) → is_some o ≡ false → (option_map_or (λ p. Grow p.label p.below End) o End ≡ End) × (option_map_or (λ p. are_bounded page.viewport p.above (Grow p.label p.below End)) o true ≡ true)
    by_place None is = (refl, refl)
    by_place (Some p) is = absurd cc

-- the node whose subtree is meant, where it is there
pub record IsTop (page : Contents) (subtree : ℕ) (top : Option ℕ) : Type 0 where
  pub there : IfSome top (λ id. IsTrue (has_id page id))
  pub tree_is : subtree_of page subtree ≡ option_map_or (tree_of page) top End
  pub bounded_is : is_bounded_in page subtree ≡ option_map_or (is_bounded_from page) top true

-- that of the whole page is the root
pub top-root : (page : Contents) → IsValid page → (top : Option ℕ) → option_to_list top ≡ roots_of page.tree → IsTop page 0 top
top-root page valid None is = record {
  there = tt;
  tree_is = rootless-tree page (sym is);
  bounded_is = ap (are_bounded page.viewport []) (rootless-tree page (sym is));
}
top-root page valid (Some root) is = record {
  there = root-there page root (sym is);
  tree_is = root-subtree page valid root (sym is);
  bounded_is = root-bounded page valid root (sym is);
}
