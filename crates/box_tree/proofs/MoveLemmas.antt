-- A page with a node moved, and all below it: what no fault means, that it is valid, and that it is what the nodes mean
-- once they are relocated.
use Rattle.std.proofs.Common.{◌≡◌, ◌≢◌, ◌⊎◌, ℕ, ◌+◌, ◌-◌, ◌<◌, ◌≤◌, ◌==◌, List, [], ◌∷◌, ◌++◌, length, Option, Some, None, is_some, true, false, Bool, not, if◌then◌else◌, refl, sym, ap, ◌∙◌, subst, inl, inr, arith, length-append}
use mathlib.Core.Bool.{false≢true}
use Rattle.std.specs.Prelude.{nat_lt, ◌||◌}
use Rattle.std.specs.Option.{option_or, option_map, option_map_or}
use Rattle.std.specs.List.{insert}
use Rattle.std.proofs.lemmas.Bool.{cases_lt, cases_eq}
use Rattle.std.proofs.lemmas.Bool.Decides.{nat_tests}
use Rattle.box_tree.specs.declared.node.Node.{Node}
use Rattle.box_tree.specs.declared.edit.Edit.{Edit}
use Rattle.box_tree.specs.declared.edit.Edit.TheVariants.{Move}
use Rattle.box_tree.specs.declared.plan.Frame.{Frame}
use Rattle.box_tree.specs.declared.plan.Relocation.{Relocation}
use Rattle.box_tree.specs.declared.plan.Plan.TheVariants.{MoveNodes}
use Rattle.box_tree.specs.declared.plan.Taken.TheVariants.{Moved}
use Rattle.box_tree.specs.Forest.{Label, Forest, End, Grow, roots_of, ids_in, node_count, height_of, occurrences, Placed, placed_in, EachNode}
use Rattle.box_tree.specs.Contents.{Contents, node_at, node_of, placed_of, tree_of, has_id, parent_id, IsGiven, IsSuited, IsValid}
use Rattle.box_tree.specs.Counted.{IsCounted}
use Rattle.box_tree.specs.Suits.{has_no_parent, kind_suits, box_count_suits}
use Rattle.box_tree.specs.Totals.{box_count, vertex_count, sums_in}
use Rattle.box_tree.specs.Forms.{form_vertices}
use Rattle.box_tree.specs.Edited.{kind_may_move, taken_out, put_below, moved, edited, page_without, is_root, ancestors_below, child_count, first_fault, faults_of}
use Rattle.box_tree.specs.Kept.{node_with, with_children, IsKept}
use Rattle.box_tree.specs.Nodes.{NodesState, changed_at, HasSameRoom}
use Rattle.box_tree.specs.Planned.{ids_without, is_among, times_in, children_without, relocated, relocated_at, moved_at, back_from, MayRelocate, MayRelocateAll, IsPlaceFor, IsPlanned}
use Rattle.box_tree.proofs.ForestLemmas.{single, placed_in-head, placed_in-present, node_in, with_child, ancestors_in, if_map, or-none, node_in-cons, node_in-absent, node_in-put_below, occurrences-put_below, roots-put_below, node_count-put_below}
use Rattle.box_tree.proofs.PutLemmas.{given-absent, each-put_below, height-put_below}
use Rattle.box_tree.proofs.KeptLemmas.{changed-here, changed-other, child_more, children-back, relocated-among, relocated-apart, relocated-changed}
use Rattle.box_tree.proofs.AddLemmas.{none_holds, not_false, once_there}
use Rattle.box_tree.proofs.CountLemmas.{times_in-ids_in}
use Rattle.box_tree.proofs.PlacedLemmas.{id-placed_in, page-at_places, found-at_places, AreAtPlaces, depth-placed_in, seen_at}
use Rattle.box_tree.proofs.PlanLemmas.{state_of, Carries, carries}
use Rattle.box_tree.proofs.SubtreeLemmas.{Head, Deeper, Beside, found_in, IsAbove, parent_above, placed-at_places, is_among-ids_in}
use Rattle.box_tree.proofs.TakenLemmas.{height-taken_out, each-taken_out, roots-taken_out, length-ids_without, place_without, placed_in-taken_out, occurrences-parted, node_count-parted}
use Rattle.box_tree.proofs.RemoveLemmas.{node_at-without, other_node, placed_below}
use Rattle.box_tree.proofs.TotalLemmas.{same_sums, total-put_below, total-parted}

-- a move without a fault
pub record MayMove (page : Contents) (id parent at : ℕ) : Type 0 where
  pub named : parent ≢ 0
  pub parent_there : has_id page parent ≡ true
  pub child : is_root page id ≡ false
  pub kind : kind_may_move page id parent ≡ true
  pub apart : occurrences (tree_of page id) parent ≡ 0
  pub place : at ≤ child_count (page_without page id) parent
  pub depth : length (ancestors_below page parent) + height_of (tree_of page id) ≤ 256

pub may_move : (page : Contents) (id parent at : ℕ) → first_fault page (Move id parent at) ≡ None → MayMove page id parent at
may_move page id parent at none =
    let tests = none_holds (faults_of page (Move id parent at)) none in
    let named : parent ≢ 0 = (λ is_none. at_zero (is_root page id) tests.1.0 is_none) in
    record {
      named = named;
      parent_there = both_there (has_id page id) (has_id page parent) tests.0 named;
      child = not_root (parent == 0) (is_root page id) tests.1.0;
      kind = not_false (kind_may_move page id parent) tests.1.1.0;
      apart = grind (arith, nat_tests, tests.1.1.1.0);
      place = grind (arith, nat_tests, tests.1.1.1.1.0);
      depth = grind (arith, nat_tests, tests.1.1.1.1.1.0);
    }
  where
    at_zero : (root : Bool) → (parent == 0 || root) ≡ false → parent ≡ 0 → ⊥
    at_zero root none' is_none = grind (arith, nat_tests)

    both_there : (has has' : Bool) → (not has || not (parent == 0 || has')) ≡ false → parent ≢ 0 → has' ≡ true
    both_there true true is other = refl
    both_there true false is other = absurd (grind (arith, nat_tests))
    both_there false has' is other = absurd cc

    not_root : (zero_named root : Bool) → (zero_named || root) ≡ false → root ≡ false
    not_root true root is = absurd cc
    not_root false root is = is

-- what holds of each node holds of each of a tree that stands among them
pub each-placed : (P : List Label → Label → Type 0) (f : Forest) (above : List Label) (id : ℕ) (p : Placed) → EachNode P above f → placed_in above f id ≡ Some p → EachNode P p.above (Grow p.label p.below End)
each-placed P End above id p each found = absurd cc
each-placed P (Grow n below others) above id p each found = elim (found_in n below others above id p found) [
  | Head here is ↦ rw is (each.0, (each.1.0, tt))
  | Deeper other is ↦ each-placed P below (n ∷ above) id p each.1.0 is
  | Beside other is ↦ each-placed P others above id p each.1.1 is
]

-- what asks only of the parent and of whether that has a parent holds below other ancestors of a node too
pub each-elsewhere : (P : List Label → Label → Type 0) → ((m a b : Label) (above above' : List Label) (n : Label) → P (m ∷ a ∷ above) n → P (m ∷ b ∷ above') n) → (f : Forest) (m a b : Label) (above above' : List Label) → EachNode P (m ∷ a ∷ above) f → EachNode P (m ∷ b ∷ above') f
each-elsewhere P same End m a b above above' each = tt
each-elsewhere P same (Grow n below others) m a b above above' each =
    (same m a b above above' n each.0, (each-elsewhere P same below n m m (a ∷ above) (b ∷ above') each.1.0, each-elsewhere P same others m a b above above' each.1.1))

-- a node that is found below these ancestors has them all
pub above-placed_in : (f : Forest) (above : List Label) (id : ℕ) (p : Placed) → placed_in above f id ≡ Some p → length above ≤ length p.above
above-placed_in End above id p found = absurd cc
above-placed_in (Grow n below others) above id p found = elim (found_in n below others above id p found) [
  | Head here is ↦ rw is (omega arith)
  | Deeper other is ↦ omega (arith, above-placed_in below (n ∷ above) id p is)
  | Beside other is ↦ above-placed_in others above id p is
]

-- a node at another depth
abbrev pub at_depth : ℕ → ℕ → Node → Node
at_depth old new n = record n { depth = n.depth - old + new }

-- a node whose parent and depth are equal
with_both : (n : Node) (p p' d d' : ℕ) → p ≡ p' → d ≡ d' → record n { parent = p; depth = d } ≡ record n { parent = p'; depth = d' }
with_both n p p' d d' parents depths = rw (parents, depths) refl

-- nodes that stand below a node are at another depth where it has other ancestors, and else the same
pub node_in-elsewhere : (f : Forest) (first : List Label) (n : Label) (above above' : List Label) (id : ℕ) → node_in (first ++ n ∷ above') f id ≡ option_map (at_depth (1 + length above) (1 + length above')) (node_in (first ++ n ∷ above) f id)
node_in-elsewhere End first n above above' id = refl
node_in-elsewhere (Grow m below others) first n above above' id =
    rw (node_in-cons m below others (first ++ n ∷ above') id, node_in-cons m below others (first ++ n ∷ above) id)
    (if_map (at_depth (1 + length above) (1 + length above')) (m.id == id) _ _ _ _ _ _ same (node_in-elsewhere below (m ∷ first) n above above' id) (node_in-elsewhere others first n above above' id))
  where
    parent_same : (xs : List Label) → parent_id (xs ++ n ∷ above') ≡ parent_id (xs ++ n ∷ above)
    parent_same [] = refl
    parent_same (x ∷ xs) = refl

    same : node_at (record { label = m; above = first ++ n ∷ above'; below = below }) ≡ at_depth (1 + length above) (1 + length above') (node_at (record { label = m; above = first ++ n ∷ above; below = below }))
    same =
        let deep : 1 + length (first ++ n ∷ above') ≡ 1 + length (first ++ n ∷ above) - (1 + length above) + (1 + length above') = omega (arith, length-append first (n ∷ above'), length-append first (n ∷ above)) in
        with_both (node_at (record { label = m; above = first ++ n ∷ above; below = below })) _ _ _ _ (parent_same first) deep

-- a node below the head of a tree
node_in-single : (n : Label) (below : Forest) (above : List Label) (id : ℕ) → n.id ≢ id → node_in above (single n below) id ≡ node_in (n ∷ above) below id
node_in-single n below above id other = rw (node_in-cons n below End above id) (grind (arith, nat_tests, or-none (node_in (n ∷ above) below id)))

-- ids are all kept where none is the one that goes
ids_without-none : (ids : List ℕ) (id : ℕ) → is_among ids id ≡ false → ids_without id ids ≡ ids
ids_without-none [] id none = refl
ids_without-none (first ∷ ids) id none = grind (arith, nat_tests, ids_without-none ids id)

module _ (page : Contents) (valid : IsValid page) (id parent at : ℕ) (q : Placed) (found : placed_of page id ≡ Some q) (may : MayMove page id parent at) where
  abbrev rest : Forest
  rest = taken_out id page.tree

  abbrev moved_tree : Forest
  moved_tree = single q.label q.below

  tree_is : tree_of page id ≡ moved_tree
  tree_is = ap (λ o. option_map_or (λ p. Grow p.label p.below End) o End) found

  id_is : q.label.id ≡ id
  id_is = id-placed_in page.tree [] id q found

  -- an id stands in what stays or in the moved tree
  parted : (k : ℕ) → occurrences page.tree k ≡ occurrences rest k + occurrences moved_tree k
  parted k = occurrences-parted page.tree [] id k (valid.distinct id) ∙ ap (λ f. occurrences rest k + occurrences f k) tree_is

  once : occurrences rest parent ≡ 1
  once = omega (arith, parted parent, once_there page parent valid may.parent_there, ap (λ f. occurrences f parent) tree_is, may.apart)

  -- the new parent has the ancestors that it had
  ancestors_are : ancestors_in [] rest parent ≡ ancestors_below page parent
  ancestors_are = ap (λ o. option_map_or (λ p. p.label ∷ p.above) o []) (placed_in-taken_out page.tree [] id parent (valid.distinct parent) (omega (arith, once))) ∙ by_place (placed_of page parent)
    where
      by_place : (o : Option Placed) → option_map_or (λ p. p.label ∷ p.above) (option_map (place_without id) o) [] ≡ option_map_or (λ p. p.label ∷ p.above) o []
      by_place None = refl
      by_place (Some p) = refl

  abbrev pub new_page : Contents
  new_page = record page { tree = put_below parent at q.label q.below rest }

  -- the node has a parent, which stays
  old_parent : IsAbove page q.above
  old_parent = elim (parent_above page page.tree [] id q (page-at_places page valid) found) [
    | inl at_head ↦ absurd (false≢true (sym may.child ∙ at_head.0))
    | inr is ↦ is
  ]

  moved_at_places : AreAtPlaces page q.above moved_tree
  moved_at_places = (ap (placed_of page) id_is ∙ found, (found-at_places page id q valid found, tt))

  from_stays : 0 < occurrences rest old_parent.label.id
  from_stays = elim (cases_lt 0 (occurrences moved_tree old_parent.label.id)) [
    | inl some ↦
        let is = sym old_parent.found ∙ placed-at_places page moved_tree q.above old_parent.label.id moved_at_places some in
        absurd (omega (arith, above-placed_in moved_tree q.above old_parent.label.id _ (sym is), ap (λ (a : List Label). length a) old_parent.above_is))
    | inr none ↦ omega (arith, parted old_parent.label.id, once_there page old_parent.label.id valid (ap is_some old_parent.found))
  ]

  -- what holds of each node of the moved tree holds at its new place, where it holds of the moved node there
  elsewhere : (P : List Label → Label → Type 0) → ((m a b : Label) (above above' : List Label) (n : Label) → P (m ∷ a ∷ above) n → P (m ∷ b ∷ above') n) → (P q.above q.label → P (ancestors_below page parent) q.label) → EachNode P [] page.tree → EachNode P (ancestors_in [] rest parent) moved_tree
  elsewhere P same head each =
      let there = each-placed P page.tree [] id q each found in
      let here = subst (λ a. EachNode P a moved_tree) old_parent.above_is there in
      rw ancestors_are (by_place (placed_of page parent) may.parent_there here (head there.0))
    where
      by_place : (o : Option Placed) → is_some o ≡ true → EachNode P (old_parent.label ∷ old_parent.others) moved_tree → P (option_map_or (λ p. p.label ∷ p.above) o []) q.label → EachNode P (option_map_or (λ p. p.label ∷ p.above) o []) moved_tree
      by_place None is here now = absurd (false≢true is)
      by_place (Some p) is here now = (now, (each-elsewhere P same q.below q.label old_parent.label p.label old_parent.others p.above here.1.0, tt))

  -- the moved node suits its new place: it was no root, and is none
  suited_there : IsSuited q.above q.label → IsSuited (ancestors_below page parent) q.label
  suited_there suited =
      let kind_is : kind_suits (ancestors_below page parent) q.label.kind ≡ true = sym (ap (λ o. option_map_or (λ p. kind_suits (ancestors_below page parent) p.label.kind) o false) found) ∙ may.kind in
      let was_child : has_no_parent q.above ≡ false = ap has_no_parent old_parent.above_is in
      let is_child : has_no_parent (ancestors_below page parent) ≡ false = by_place (placed_of page parent) may.parent_there in
      record {
        kind = kind_is;
        boxes = ap (λ b. box_count_suits b q.label.kind (length q.label.boxes)) (is_child ∙ sym was_child) ∙ suited.boxes;
        style = suited.style;
        style_in_range = suited.style_in_range;
        box_count = suited.box_count;
        in_range = suited.in_range;
        formed = suited.formed;
        anchor = suited.anchor;
        scroll = suited.scroll;
      }
    where
      by_place : (o : Option Placed) → is_some o ≡ true → has_no_parent (option_map_or (λ p. p.label ∷ p.above) o []) ≡ false
      by_place None is = absurd (false≢true is)
      by_place (Some p) is = refl

  -- as many boxes are there as before
  pub boxes_stay : box_count (put_below parent at q.label q.below rest) ≡ box_count page.tree
  boxes_stay = omega (arith, total-put_below (λ n. length n.boxes) rest parent at q.label q.below once, total-parted (λ n. length n.boxes) page.tree [] id (valid.distinct id), ap box_count tree_is)

  -- as many vertices
  pub vertices_stay : vertex_count (put_below parent at q.label q.below rest) ≡ vertex_count page.tree
  vertices_stay = omega (arith, total-put_below (λ n. form_vertices n.form) rest parent at q.label q.below once, total-parted (λ n. form_vertices n.form) page.tree [] id (valid.distinct id), ap vertex_count tree_is)

  -- and as many nodes
  pub nodes_stay : node_count (put_below parent at q.label q.below rest) ≡ node_count page.tree
  nodes_stay = node_count-put_below rest parent at q.label q.below once ∙ omega (arith, node_count-parted page.tree [] id (valid.distinct id), ap node_count tree_is)

  valid-moved : IsValid new_page
  valid-moved = record {
    one_tree = rw (roots-put_below rest parent at q.label q.below, roots-taken_out page.tree id) (omega (arith, length-ids_without (roots_of page.tree) id, valid.one_tree));
    distinct = λ k. rw (occurrences-put_below rest parent at q.label q.below k once) (omega (arith, parted k, valid.distinct k));
    given = each-put_below (IsGiven page.next) rest [] parent at q.label q.below once (each-taken_out (IsGiven page.next) page.tree [] id valid.given) (elsewhere (IsGiven page.next) (λ m a b above above' n given. record { positive = given.positive; below_next = given.below_next }) (λ given. record { positive = given.positive; below_next = given.below_next }) valid.given);
    suited = each-put_below IsSuited rest [] parent at q.label q.below once (each-taken_out IsSuited page.tree [] id valid.suited) (elsewhere IsSuited (λ m a b above above' n suited. record { kind = suited.kind; boxes = suited.boxes; style = suited.style; style_in_range = suited.style_in_range; box_count = suited.box_count; in_range = suited.in_range; formed = suited.formed; anchor = suited.anchor; scroll = suited.scroll }) suited_there valid.suited);
    depth = omega (arith, height-put_below rest [] parent at q.label q.below 256 once (omega (arith, height-taken_out page.tree id, valid.depth)) (omega (arith, may.depth, ap (λ (a : List Label). length a) ancestors_are, ap height_of tree_is)));
    nodes = rw (node_count-put_below rest parent at q.label q.below once) (omega (arith, valid.nodes, node_count-parted page.tree [] id (valid.distinct id), ap node_count tree_is));
    boxes = rw boxes_stay valid.boxes;
    vertices = rw vertices_stay valid.vertices;
    next = valid.next;
    viewport = valid.viewport;
  }

  module _ (r : Relocation) (place : IsPlaceFor page id parent r) (ids : List ℕ) (ids_is : ids ≡ ids_in (tree_of page id)) where
    ids_are : (other : ℕ) → is_among ids other ≡ nat_lt 0 (occurrences (tree_of page id) other)
    ids_are other = ap (λ xs. is_among xs other) ids_is ∙ is_among-ids_in (tree_of page id) other

    abbrev new_above : List Label
    new_above = ancestors_in [] rest parent

    old_depth_is : 1 + length q.above ≡ r.old_depth
    old_depth_is = let is : Some (1 + length q.above) ≡ Some r.old_depth = sym (ap (λ o. option_map (λ (n : Node). n.depth) (option_map node_at o)) found) ∙ place.old_depth_is in cc

    from_is : parent_id q.above ≡ r.from
    from_is = let is : Some (parent_id q.above) ≡ Some r.from = sym (ap (λ o. option_map (λ (n : Node). n.parent) (option_map node_at o)) found) ∙ place.from_is in cc

    new_depth_is : r.depth ≡ 1 + length new_above
    new_depth_is = omega (arith, place.depth_is, ap (λ (a : List Label). length a) ancestors_are)

    levels_fit : length new_above + height_of moved_tree ≤ 256
    levels_fit = omega (arith, may.depth, ap (λ (a : List Label). length a) ancestors_are, ap height_of tree_is)

    new_parent_is : parent_id new_above ≡ parent
    new_parent_is = ap parent_id ancestors_are ∙ by_place (placed_of page parent) refl may.parent_there
      where
        by_place : (o : Option Placed) → placed_of page parent ≡ o → is_some o ≡ true → parent_id (option_map_or (λ p. p.label ∷ p.above) o []) ≡ parent
        by_place None is there = absurd (false≢true there)
        by_place (Some p) is there = id-placed_in page.tree [] parent p is

    -- a node of the moved tree at its new place is the relocated one
    moved_node : (k : ℕ) (p : Placed) → placed_in q.above moved_tree k ≡ Some p → node_in new_above moved_tree k ≡ Some (relocated r (node_at p))
    moved_node k p is = elim (found_in q.label q.below End q.above k p is) [
      | Head here p_is ↦
          ap (node_in new_above moved_tree) (sym here)
          ∙ ap (option_map node_at) (placed_in-head q.label q.below End new_above)
          ∙ ap Some (with_both (node_at (record { label = q.label; above = new_above; below = q.below })) _ _ _ _
          (new_parent_is ∙ sym place.parent_is ∙ (let same : q.label.id ≡ r.id = id_is ∙ sym place.id_is in grind (arith, nat_tests)))
          (omega (arith, old_depth_is, new_depth_is, levels_fit)))
          ∙ ap (λ (p' : Placed). Some (relocated r (node_at p'))) (sym p_is)
      | Deeper other is' ↦
          node_in-single q.label q.below new_above k other
          ∙ node_in-elsewhere q.below [] q.label q.above new_above k
          ∙ ap (option_map (at_depth (1 + length q.above) (1 + length new_above))) (ap (option_map node_at) is')
          ∙ ap Some (with_both (node_at p) _ _ _ _
          (let apart : p.label.id ≢ r.id = (λ same. other (id_is ∙ sym place.id_is ∙ sym same ∙ id-placed_in q.below (q.label ∷ q.above) k p is')) in grind (arith, nat_tests))
          (omega (arith, old_depth_is, new_depth_is, levels_fit, depth-placed_in q.below (q.label ∷ q.above) k p is')))
      | Beside other is' ↦ absurd cc
    ]

    -- a node of the moved tree, as a reader sees it, is relocated and then goes back
    goes_back : (k : ℕ) → is_among ids k ≡ true → option_map (relocated (back_from r)) (option_map (relocated r) (node_of page k)) ≡ node_of page k
    goes_back k among =
        let is : nat_lt 0 (occurrences moved_tree k) ≡ true = sym (ids_are k ∙ ap (λ f. nat_lt 0 (occurrences f k)) tree_is) ∙ among in
        let some : 0 < occurrences moved_tree k = grind (arith, nat_tests) in
        let placed = placed-at_places page moved_tree q.above k moved_at_places some in
        by_place (placed_of page k) refl (λ p is_placed. sym placed ∙ is_placed)
      where
        depth_back : (d old new : ℕ) → old ≤ d → d - old + new - new + old ≡ d
        depth_back d old new least = omega arith

        parent_back : (p : Placed) → placed_of page k ≡ Some p → (b : Bool) → (p.label.id == r.id) ≡ b → (if b then r.from else (if b then r.parent else parent_id p.above)) ≡ parent_id p.above
        parent_back p is_placed false is_other = refl
        parent_back p is_placed true is_same =
            let same : p.label.id ≡ r.id = grind (arith, nat_tests) in
            let same_place : Some q ≡ Some p = sym found ∙ ap (placed_of page) (sym (sym (id-placed_in page.tree [] k p is_placed) ∙ same ∙ place.id_is)) ∙ is_placed in
            let q_is : q ≡ p = cc in
            sym from_is ∙ ap (λ (x : Placed). parent_id x.above) q_is

        by_place : (o : Option Placed) → placed_of page k ≡ o → ((p : Placed) → placed_of page k ≡ Some p → placed_in q.above moved_tree k ≡ Some p) → option_map (relocated (back_from r)) (option_map (relocated r) (option_map node_at o)) ≡ option_map node_at o
        by_place None is_placed in_tree = refl
        by_place (Some p) is_placed in_tree =
            let least = above-placed_in moved_tree q.above k p (in_tree p is_placed) in
            ap Some (with_both (node_at p) _ _ _ _
            (parent_back p is_placed (p.label.id == r.id) refl)
            (depth_back (1 + length p.above) r.old_depth r.depth (omega (arith, least, old_depth_is))))

    -- the nodes of the moved tree may be relocated
    pub may_relocate : MayRelocateAll r ids (node_of page)
    may_relocate = record {
      once = λ k. omega (arith, ap (times_in k) ids_is, times_in-ids_in (tree_of page id) k, occurrences-parted page.tree [] id k (valid.distinct id), valid.distinct k);
      each = λ k among n seen. by_place k among n (placed_of page k) refl seen;
    }
      where
        by_place : (k : ℕ) → is_among ids k ≡ true → (n : Node) → (o : Option Placed) → placed_of page k ≡ o → option_map node_at o ≡ Some n → MayRelocate r n
        by_place k among n None is_placed seen = absurd cc
        by_place k among n (Some p) is_placed seen =
            let is : nat_lt 0 (occurrences moved_tree k) ≡ true = sym (ids_are k ∙ ap (λ f. nat_lt 0 (occurrences f k)) tree_is) ∙ among in
            let some : 0 < occurrences moved_tree k = grind (arith, nat_tests) in
            let least = above-placed_in moved_tree q.above k p (sym (placed-at_places page moved_tree q.above k moved_at_places some) ∙ is_placed) in
            let most = depth-placed_in page.tree [] k p is_placed in
            let depth_is : 1 + length p.above ≡ n.depth = (let n_is : node_at p ≡ n = cc in ap (λ (x : Node). x.depth) n_is) in
            record {
              least = omega (arith, least, old_depth_is, depth_is);
              most = omega (arith, most, valid.depth, depth_is);
              new_most = omega (arith, new_depth_is, levels_fit);
            }

    module _ (first : Option ℕ) (look look' : ℕ → Option Node) (siblings children : List ℕ) (kept : IsKept look first page) (siblings_are : siblings ≡ children_without page r.from id) (children_are : children ≡ insert (children_without page parent id) at id)
        (looked_up : (k : ℕ) → look' k ≡ moved_at r siblings children ids k (look k)) where
      -- what is looked up of an id once both parents have their children
      abbrev two : ℕ → Option Node
      two k = changed_at r.parent (with_children children) k (changed_at r.from (with_children siblings) k (node_of page k))

      -- and what is looked up of it on the page without the tree of the moved node
      abbrev node_off : ℕ → Option Node
      node_off k = option_map node_at (option_map (place_without id) (placed_of page k))

      stays_at : (k : ℕ) → two k ≡ option_map (with_child parent at q.label.id) (option_map node_at (option_map (place_without id) (placed_of page k)))
      stays_at k =
          ap (changed_at r.parent (with_children children) k) (without k)
          ∙ ap (λ i. changed_at i (with_children children) k (node_off k)) place.parent_is
          ∙ child_more parent at q.label.id children k (node_off k) (id_off k) (λ here. children_are ∙ ap (λ i. insert (children_without page parent id) at i) (sym id_is) ∙ ap (λ i. insert (children_without page i id) at q.label.id) here ∙ off_children k (ap (has_id page) (sym here) ∙ may.parent_there))
        where
          id_off : (k' : ℕ) (n : Node) → node_off k' ≡ Some n → n.id ≡ k'
          id_off k' n seen = by_place (placed_of page k') refl seen
            where
              by_place : (o : Option Placed) → placed_of page k' ≡ o → option_map node_at (option_map (place_without id) o) ≡ Some n → n.id ≡ k'
              by_place None is_placed seen' = absurd cc
              by_place (Some p) is_placed seen' = let same : node_at (place_without id p) ≡ n = cc in sym (ap (λ (x : Node). x.id) same) ∙ id-placed_in page.tree [] k' p is_placed

          -- the old parent has one child less, and every other node has its children
          without : (k' : ℕ) → changed_at r.from (with_children siblings) k' (node_of page k') ≡ node_off k'
          without k' = elim (cases_eq r.from k') [
            | inl here ↦ changed-here r.from (with_children siblings) k' (node_of page k') here ∙ at_parent here (placed_of page k') refl
            | inr other ↦ changed-other r.from (with_children siblings) k' (node_of page k') other ∙ sym (other_node page valid id q found r.from from_is k' (λ same. other (sym same)))
          ]
            where
              at_parent : r.from ≡ k' → (o : Option Placed) → placed_of page k' ≡ o → option_map (with_children siblings) (option_map node_at o) ≡ option_map node_at (option_map (place_without id) o)
              at_parent here None is_placed = refl
              at_parent here (Some p) is_placed =
                  ap (λ c. Some (with_children c (node_at p))) (siblings_are ∙ ap (λ o. option_map_or (λ (x : Node). ids_without id x.children) o []) (ap (node_of page) here ∙ ap (option_map node_at) is_placed))
                  ∙ ap Some (sym (node_at-without id p))

          off_children : (k' : ℕ) → has_id page k' ≡ true → insert (children_without page k' id) at q.label.id ≡ option_map_or (λ (n : Node). insert n.children at q.label.id) (node_off k') []
          off_children k' there = by_place (placed_of page k') there
            where
              by_place : (o : Option Placed) → is_some o ≡ true → insert (option_map_or (λ (n : Node). ids_without id n.children) (option_map node_at o) []) at q.label.id ≡ option_map_or (λ (n : Node). insert n.children at q.label.id) (option_map node_at (option_map (place_without id) o)) []
              by_place None is = absurd (false≢true is)
              by_place (Some p) is = ap (λ c. insert c at q.label.id) (sym (roots-taken_out p.below id))

      new_is : (k : ℕ) → node_in [] (put_below parent at q.label q.below rest) k ≡ option_or (option_map (with_child parent at q.label.id) (node_in [] rest k)) (node_in new_above moved_tree k)
      new_is k = node_in-put_below rest [] parent at q.label q.below k once may.place (omega (arith, parted k, valid.distinct k))

      known : (k : ℕ) → look' k ≡ node_in [] (put_below parent at q.label q.below rest) k
      known k =
          looked_up k ∙ ap (moved_at r siblings children ids k) (kept.looked_up k)
          ∙ elim (cases_lt 0 (occurrences rest k)) [
            | inl stays ↦
                let none : occurrences moved_tree k ≡ 0 = omega (arith, parted k, valid.distinct k) in
                let keeps : is_among ids k ≡ false = ids_are k ∙ ap (λ f. nat_lt 0 (occurrences f k)) tree_is ∙ ap (nat_lt 0) none in
                relocated-apart r ids k (two k) keeps ∙ stays_at k
                ∙ sym (new_is k ∙ ap (option_or (option_map (with_child parent at q.label.id) (node_in [] rest k))) (node_in-absent moved_tree new_above k none) ∙ or-none (option_map (with_child parent at q.label.id) (node_in [] rest k))
                ∙ ap (λ o. option_map (with_child parent at q.label.id) (option_map node_at o)) (placed_in-taken_out page.tree [] id k (valid.distinct k) stays))
            | inr few ↦
                let gone : occurrences rest k ≡ 0 = omega arith in
                ap (relocated_at r ids k) (not_two k gone)
                ∙ moved_at_place k gone
                ∙ sym (new_is k ∙ ap (λ o. option_or (option_map (with_child parent at q.label.id) o) (node_in new_above moved_tree k)) (node_in-absent rest [] k gone))
          ]
        where
          not_two : (k' : ℕ) → occurrences rest k' ≡ 0 → two k' ≡ node_of page k'
          not_two k' gone =
              let apart' : r.parent ≢ k' = (λ here. omega (arith, once, gone, ap (occurrences rest) (sym place.parent_is ∙ here))) in
              let apart : r.from ≢ k' = (λ here. omega (arith, from_stays, gone, ap (occurrences rest) (sym (sym from_is ∙ ap parent_id old_parent.above_is) ∙ here))) in
              changed-other r.parent (with_children children) k' _ apart' ∙ changed-other r.from (with_children siblings) k' _ apart

          moved_at_place : (k' : ℕ) → occurrences rest k' ≡ 0 → relocated_at r ids k' (node_of page k') ≡ node_in new_above moved_tree k'
          moved_at_place k' gone = elim (cases_lt 0 (occurrences moved_tree k')) [
            | inl some ↦
                let among : is_among ids k' ≡ true = ids_are k' ∙ ap (λ f. nat_lt 0 (occurrences f k')) tree_is ∙ grind (arith, nat_tests) in
                relocated-among r ids k' (node_of page k') among
                ∙ by_place (placed_in q.above moved_tree k') refl (placed_in-present moved_tree q.above k' some) (placed-at_places page moved_tree q.above k' moved_at_places some)
            | inr none ↦
                ap (relocated_at r ids k') (node_in-absent page.tree [] k' (omega (arith, parted k', gone, none)))
                ∙ relocated-none k'
                ∙ sym (node_in-absent moved_tree new_above k' (omega (arith, none)))
          ]
            where
              relocated-none : (j : ℕ) → relocated_at r ids j None ≡ None
              relocated-none j = by_test (is_among ids j)
                where
                  by_test : (b : Bool) → (if b then option_map (relocated r) None else None) ≡ None
                  by_test true = refl
                  by_test false = refl

              by_place : (o : Option Placed) → placed_in q.above moved_tree k' ≡ o → is_some o ≡ true → placed_of page k' ≡ placed_in q.above moved_tree k' → option_map (relocated r) (node_of page k') ≡ node_in new_above moved_tree k'
              by_place None at_none there placed = absurd (false≢true there)
              by_place (Some p) at_some there placed =
                  ap (λ o. option_map (relocated r) (option_map node_at o)) (placed ∙ at_some)
                  ∙ sym (moved_node k' p at_some)

      pub kept-moved : IsKept look' first new_page
      kept-moved = record {
        valid = valid-moved;
        looked_up = known;
        root = kept.root ∙ sym (roots-put_below rest parent at q.label q.below ∙ roots-taken_out page.tree id ∙ ids_without-none (roots_of page.tree) id may.child);
      }

      -- and they may be once more, on the way back
      pub may_go_back : MayRelocateAll (back_from r) ids (node_of new_page)
      may_go_back = record {
        once = may_relocate.once;
        each = λ k among n seen.
            let at = seen_at new_page k n seen in
            let most = depth-placed_in new_page.tree [] k at.place at.found in
            let depth_is : 1 + length at.place.above ≡ n.depth = ap (λ (x : Node). x.depth) at.node_is in
            record {
              least = least k n (two k) (sym (relocated-among r ids k (two k) among) ∙ sym (looked_up k ∙ ap (moved_at r siblings children ids k) (kept.looked_up k)) ∙ known k ∙ seen);
              most = omega (arith, most, valid-moved.depth, depth_is);
              new_most = omega (arith, old_depth_is, above-most);
            };
      }
        where
          above-most : 1 + length q.above ≤ 256
          above-most = omega (arith, depth-placed_in page.tree [] id q found, valid.depth)

          least : (k : ℕ) (n : Node) (o : Option Node) → option_map (relocated r) o ≡ Some n → r.depth ≤ n.depth
          least k n None is = absurd cc
          least k n (Some m) is = (let n_is : relocated r m ≡ n = cc in omega (arith, ap (λ (x : Node). x.depth) n_is))

      -- and back
      pub moved-back : (had had' : List ℕ) → had ≡ option_map_or (λ (n : Node). n.children) (look r.from) siblings → had' ≡ option_map_or (λ (n : Node). n.children) (changed_at r.from (with_children siblings) r.parent (look r.parent)) children →
          (k : ℕ) → moved_at (back_from r) had' had ids k (look' k) ≡ node_of page k
      moved-back had had' had_is had'_is k =
          let one : ℕ → Option Node = λ j. changed_at r.from (with_children siblings) j (look j) in
          ap (moved_at (back_from r) had' had ids k) (looked_up k)
          ∙ ap (λ o. relocated_at (back_from r) ids k (changed_at r.from (with_children had) k o)) (relocated-changed r ids r.parent had' k (changed_at r.parent (with_children children) k (one k)))
          ∙ ap (λ o. relocated_at (back_from r) ids k (changed_at r.from (with_children had) k (relocated_at r ids k o))) (children-back r.parent children had' one had'_is k)
          ∙ ap (relocated_at (back_from r) ids k) (relocated-changed r ids r.from had k (one k))
          ∙ ap (λ o. relocated_at (back_from r) ids k (relocated_at r ids k o)) (children-back r.from siblings had look had_is k ∙ kept.looked_up k)
          ∙ by_among (is_among ids k) refl
        where
          by_among : (b : Bool) → is_among ids k ≡ b → relocated_at (back_from r) ids k (relocated_at r ids k (node_of page k)) ≡ node_of page k
          by_among true among = relocated-among (back_from r) ids k _ among ∙ ap (option_map (relocated (back_from r))) (relocated-among r ids k (node_of page k) among) ∙ goes_back k among
          by_among false apart = relocated-apart (back_from r) ids k _ apart ∙ relocated-apart r ids k (node_of page k) apart

-- a node that is found below these ancestors stands right below them, or its parent is in the trees too
parent_in : (f : Forest) (above : List Label) (k : ℕ) (p : Placed) → placed_in above f k ≡ Some p → (p.above ≡ above) ⊎ (0 < occurrences f (parent_id p.above))
parent_in End above k p found = absurd cc
parent_in (Grow n below others) above k p found = elim (found_in n below others above k p found) [
  | Head here is ↦ inl (ap (λ (x : Placed). x.above) is)
  | Deeper other is ↦ elim (parent_in below (n ∷ above) k p is) [
    | inl here ↦ let at : n.id ≡ parent_id p.above = sym (ap parent_id here) in inr (grind (arith, nat_tests))
    | inr some ↦ inr (omega (arith, some))
  ]
  | Beside other is ↦ elim (parent_in others above k p is) [
    | inl here ↦ inl here
    | inr some ↦ inr (omega (arith, some))
  ]
]

-- whether a node is in the tree of another one, by its parent
module _ (page : Contents) (valid : IsValid page) (id : ℕ) (q : Placed) (found : placed_of page id ≡ Some q) (k : ℕ) (p : Placed) (is_placed : placed_of page k ≡ Some p) where
  abbrev whole : Forest
  whole = single q.label q.below

  whole_is : tree_of page id ≡ whole
  whole_is = ap (λ o. option_map_or (λ x. Grow x.label x.below End) o End) found

  apart_of : (j : ℕ) → occurrences page.tree j ≡ occurrences (taken_out id page.tree) j + occurrences whole j
  apart_of j = occurrences-parted page.tree [] id j (valid.distinct id) ∙ ap (λ f. occurrences (taken_out id page.tree) j + occurrences f j) whole_is

  once_in : occurrences page.tree k ≡ 1
  once_in = once_there page k valid (ap is_some is_placed)

  -- up
  parent_too : k ≢ id → 0 < occurrences whole k → 0 < occurrences whole (parent_id p.above)
  parent_too other some =
      let at : AreAtPlaces page q.above whole = (ap (placed_of page) (id-placed_in page.tree [] id q found) ∙ found, (found-at_places page id q valid found, tt)) in
      elim (found_in q.label q.below End q.above k p (sym (placed-at_places page whole q.above k at some) ∙ is_placed)) [
        | Head here is ↦ absurd (other (sym here ∙ id-placed_in page.tree [] id q found))
        | Deeper other' is ↦ elim (parent_in q.below (q.label ∷ q.above) k p is) [
          | inl here ↦ let head : q.label.id ≡ parent_id p.above = sym (ap parent_id here) in grind (arith, nat_tests)
          | inr some' ↦ omega (arith, some')
        ]
        | Beside other' is ↦ absurd cc
      ]

  -- down
  child_too : 0 < occurrences whole (parent_id p.above) → 0 < occurrences whole k
  child_too some = elim (cases_lt 0 (occurrences (taken_out id page.tree) k)) [
    | inl stays ↦
        let placed : placed_in [] (taken_out id page.tree) k ≡ Some (place_without id p) = placed_in-taken_out page.tree [] id k (valid.distinct k) stays ∙ ap (option_map (place_without id)) is_placed in
        elim (parent_in (taken_out id page.tree) [] k (place_without id p) placed) [
          | inl none ↦ absurd (omega (arith, some, apart_of 0, given-absent page.tree [] page.next 0 valid.given (inl refl), ap (λ a. occurrences whole (parent_id a)) none))
          | inr some' ↦ absurd (omega (arith, some, some', apart_of (parent_id p.above), valid.distinct (parent_id p.above)))
        ]
    | inr few ↦ omega (arith, few, apart_of k, once_in)
  ]

-- a climb from a node by its parents meets another node just where the first one is in its tree
module _ (page : Contents) (valid : IsValid page) (id : ℕ) where
  pub climbs : has_id page id ≡ true → (k : ℕ) (node : Node) → node_of page k ≡ Some node → k ≢ id → nat_lt 0 (occurrences (tree_of page id) node.parent) ≡ nat_lt 0 (occurrences (tree_of page id) k)
  climbs there k node seen other = by_place (placed_of page id) refl there
    where
      by_place : (o : Option Placed) → placed_of page id ≡ o → is_some o ≡ true → nat_lt 0 (occurrences (tree_of page id) node.parent) ≡ nat_lt 0 (occurrences (tree_of page id) k)
      by_place None found is = absurd (false≢true is)
      by_place (Some q) found is =
          let at = seen_at page k node seen in
          let tree_is : tree_of page id ≡ single q.label q.below = ap (λ o. option_map_or (λ x. Grow x.label x.below End) o End) found in
          let up = parent_too page valid id q found k at.place at.found other in
          let down = child_too page valid id q found k at.place at.found in
          ap (λ (n : Node). nat_lt 0 (occurrences (tree_of page id) n.parent)) (sym at.node_is)
          ∙ ap (λ f. nat_lt 0 (occurrences f (parent_id at.place.above))) tree_is
          ∙ same (occurrences (single q.label q.below) (parent_id at.place.above)) (occurrences (single q.label q.below) k) down up
          ∙ ap (λ f. nat_lt 0 (occurrences f k)) (sym tree_is)
        where
          same : (a b : ℕ) → (0 < a → 0 < b) → (0 < b → 0 < a) → nat_lt 0 a ≡ nat_lt 0 b
          same a b there back = elim (cases_lt 0 a) [
            | inl some ↦ let some' = there some in grind (arith, nat_tests)
            | inr none ↦ elim (cases_lt 0 b) [ inl some ↦ absurd (omega (arith, none, back some)) | inr none' ↦ grind (arith, nat_tests) ]
          ]

  pub climbed : has_id page id ≡ true → nat_lt 0 (occurrences (tree_of page id) id) ≡ true
  climbed there = by_place (placed_of page id) refl there
    where
      by_place : (o : Option Placed) → placed_of page id ≡ o → is_some o ≡ true → nat_lt 0 (occurrences (option_map_or (λ x. Grow x.label x.below End) o End) id) ≡ true
      by_place None found is = absurd (false≢true is)
      by_place (Some q) found is = let head : q.label.id ≡ id = id-placed_in page.tree [] id q found in grind (arith, nat_tests)

  pub climbed_out : (k : ℕ) → node_of page k ≡ None → nat_lt 0 (occurrences (tree_of page id) k) ≡ false
  climbed_out k unseen = elim (cases_lt 0 (occurrences page.tree k)) [
    | inl some ↦ absurd (none_there (placed_of page k) unseen (placed_in-present page.tree [] k some))
    | inr none ↦ let nothing : occurrences (tree_of page id) k ≡ 0 = omega (arith, none, occurrences-parted page.tree [] id k (valid.distinct id)) in grind (arith, nat_tests)
  ]
    where
      none_there : (o : Option Placed) → option_map node_at o ≡ None → is_some o ≡ true → ⊥
      none_there None is there = false≢true there
      none_there (Some p) is there = absurd cc

-- the children of the new parent without the moved node are those on the page without the moved tree
pub length-others : (page : Contents) → IsValid page → (id parent : ℕ) → has_id page parent ≡ true → occurrences (tree_of page id) parent ≡ 0 → length (children_without page parent id) ≡ child_count (page_without page id) parent
length-others page valid id parent there apart =
    let stays : 0 < occurrences (taken_out id page.tree) parent = omega (arith, occurrences-parted page.tree [] id parent (valid.distinct id), once_there page parent valid there, apart) in
    by_place (placed_of page parent) ∙ sym (ap (λ o. option_map_or (λ p. length (roots_of p.below)) o 0) (placed_in-taken_out page.tree [] id parent (valid.distinct parent) stays))
  where
    by_place : (o : Option Placed) → length (option_map_or (λ (n : Node). ids_without id n.children) (option_map node_at o) []) ≡ option_map_or (λ p. length (roots_of p.below)) (option_map (place_without id) o) 0
    by_place None = refl
    by_place (Some p) = ap (λ (ids : List ℕ). length ids) (sym (roots-taken_out p.below id))

-- a planned move
module _ (nodes : NodesState) (frame : Frame) (counted : IsCounted nodes frame.root frame.sums (state_of nodes frame).contents) (r : Relocation) (siblings children ids : List ℕ) where
  abbrev page' : Contents
  page' = (state_of nodes frame).contents

  -- the nodes of these ids may be relocated
  pub planned-may_relocate : (edit : Edit) → IsPlanned (MoveNodes r siblings children ids) edit (state_of nodes frame) → MayRelocateAll r ids (node_with nodes.nodes)
  planned-may_relocate (Move id parent at) planned =
      let plan = planned.plan_is in
      let placed = placed_below page' id r.from plan.place_is.from_is in
      let may = may_relocate page' counted.kept.valid id parent at placed.place placed.found (may_move page' id parent at planned.faultless) r plan.place_is ids plan.ids_are in
      record { once = may.once; each = λ k among n found. may.each k among n (sym (counted.kept.looked_up k) ∙ found) }
  planned-may_relocate edit planned = absurd planned.plan_is

  pub planned-move : (edit : Edit) (new : NodesState) (had had' : List ℕ) → IsPlanned (MoveNodes r siblings children ids) edit (state_of nodes frame) →
      ((k : ℕ) → node_with new.nodes k ≡ moved_at r siblings children ids k (node_with nodes.nodes k)) → length new.nodes ≡ length nodes.nodes → HasSameRoom nodes new →
      had ≡ option_map_or (λ (n : Node). n.children) (node_with nodes.nodes r.from) siblings → had' ≡ option_map_or (λ (n : Node). n.children) (changed_at r.from (with_children siblings) r.parent (node_with nodes.nodes r.parent)) children →
      Carries new frame (Moved (back_from r) had' had ids) (state_of nodes frame) edit
  planned-move (Move id parent at) new had had' planned looked_up count same_room had_is had'_is =
      let page = page' in
      let valid = counted.kept.valid in
      let plan = planned.plan_is in
      let placed = placed_below page id r.from plan.place_is.from_is in
      let q = placed.place in
      let may = may_move page id parent at planned.faultless in
      let after = new_page page valid id parent at q placed.found may in
      let moved_is : moved page id parent at ≡ after.tree = ap (λ o. option_map_or (λ p. put_below parent at p.label p.below (taken_out id page.tree)) o page.tree) placed.found in
      let edited_is : edited page (Move id parent at) ≡ after = ap (λ (tree : Forest). record page { tree = tree }) moved_is in
      let kept = kept-moved page valid id parent at q placed.found may r plan.place_is ids plan.ids_are frame.root (node_with nodes.nodes) (node_with new.nodes) siblings children counted.kept plan.siblings_are plan.children_are looked_up in
      let back = moved-back page valid id parent at q placed.found may r plan.place_is ids plan.ids_are frame.root (node_with nodes.nodes) (node_with new.nodes) siblings children counted.kept plan.siblings_are plan.children_are looked_up had had' had_is had'_is in
      let count_is : node_count after.tree ≡ node_count page.tree = nodes_stay page valid id parent at q placed.found may in
      carries new frame (Moved (back_from r) had' had ids) (state_of nodes frame) (Move id parent at)
      (rw edited_is kept)
      (rw edited_is (record {
        count = omega (arith, count, counted.count, count_is);
        sums = counted.sums_are ∙ sym (same_sums (sums_in after.tree) (sums_in page.tree) (boxes_stay page valid id parent at q placed.found may) (vertices_stay page valid id parent at q placed.found may));
        viewport = refl;
        next = refl;
        fits = omega (arith, count, counted.fits, same_room.room);
        placed = λ k positive below. omega (arith, counted.placed k positive below, same_room.ids);
      }))
      (rw edited_is (record {
        looked_up = λ k. sym (ap (moved_at (back_from r) had' had ids k) (sym (kept.looked_up k)) ∙ back k);
        count = sym count_is;
        can_go_back = may_go_back page valid id parent at q placed.found may r plan.place_is ids plan.ids_are frame.root (node_with nodes.nodes) (node_with new.nodes) siblings children counted.kept plan.siblings_are plan.children_are looked_up;
        fits = omega (arith, counted.fits, counted.count, same_room.room);
        next = omega arith;
      }))
      refl
  planned-move edit new had had' planned looked_up count same_room had_is had'_is = absurd planned.plan_is
