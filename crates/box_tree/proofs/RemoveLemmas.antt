-- A page without a node and all below it: that it is valid, and that it is what the nodes that stay then mean.
use Rattle.std.proofs.Common.{◌≡◌, ◌≢◌, ℕ, ◌+◌, ◌<◌, ◌≤◌, ◌==◌, List, [], ◌∷◌, length, Option, Some, None, IsSome, is_some, true, false, Bool, if◌then◌else◌, refl, sym, ap, ◌∙◌, inl, inr, arith}
use mathlib.Core.Bool.{false≢true}
use Rattle.std.specs.Prelude.{nat_lt, Vec, vec_len, vec_capacity}
use Rattle.std.specs.declared.alloc.Global.{Global}
use Rattle.std.specs.Option.{option_map, option_map_or, option_or, option_to_list}
use Rattle.std.specs.List.{sum_by}
use Rattle.std.proofs.lemmas.Bool.{cases_lt, cases_eq}
use Rattle.std.proofs.lemmas.Bool.Decides.{nat_tests}
use Rattle.box_tree.specs.declared.node.Node.{Node}
use Rattle.box_tree.specs.declared.edit.Edit.{Edit}
use Rattle.box_tree.specs.declared.edit.Edit.TheVariants.{Remove}
use Rattle.box_tree.specs.declared.plan.Frame.{Frame}
use Rattle.box_tree.specs.declared.plan.Plan.TheVariants.{RemoveNodes}
use Rattle.box_tree.specs.declared.plan.Taken.TheVariants.{Removed}
use Rattle.box_tree.specs.Forest.{Label, Forest, End, Grow, roots_of, ids_in, node_count, occurrences, Placed, placed_in, EachNode}
use Rattle.box_tree.specs.Contents.{Contents, node_at, node_of, placed_of, tree_of, has_id, parent_id, IsGiven, IsSuited, IsValid}
use Rattle.box_tree.specs.Counted.{IsCounted}
use Rattle.box_tree.specs.Edited.{taken_out}
use Rattle.box_tree.specs.Kept.{node_with, label_of, with_children, IsKept}
use Rattle.box_tree.specs.Nodes.{NodesState, changed_at, ChangesAt, HasSameRoom}
use Rattle.box_tree.specs.Planned.{ids_without, children_without, is_among, times_in, IsPlanned}
use Rattle.box_tree.specs.Taken.{ids_of, AreFrom}
use Rattle.box_tree.specs.Totals.{total_over, sums_in, sums_over, sums_less}
use Rattle.box_tree.specs.declared.sums.Sums.{Sums}
use Rattle.box_tree.proofs.BoxLemmas.{boxes_in, vertices_in}
use Rattle.box_tree.proofs.CountLemmas.{times_in-ids_in, length-ids_in, length-ids_of, weight_of, sum-of_tree}
use Rattle.box_tree.proofs.ForestLemmas.{node_in-absent, or-none, placed_in-absent, placed_in-present}
use Rattle.box_tree.proofs.KeptLemmas.{changed-none, changed-here, changed-other, is_some-changed, children-back, node_with-from}
use Rattle.box_tree.proofs.PlacedLemmas.{id-placed_in, page-at_places, found-at_places, seen_at}
use Rattle.box_tree.proofs.PlanLemmas.{state_of, Carries, carries, is_some-node_at}
use Rattle.box_tree.proofs.PutLemmas.{given-absent}
use Rattle.box_tree.proofs.SubtreeLemmas.{parent_there, no_child, is_among-ids_in}
use Rattle.box_tree.proofs.TakenLemmas.{taken_out-head, occurrences-taken_out, height-taken_out, node_count-taken_out, each-taken_out, roots-taken_out, length-ids_without, place_without, placed_in-taken_out, occurrences-parted, node_count-parted}
use Rattle.box_tree.proofs.TotalLemmas.{same_sums, total-taken_out, total-parted}

-- a node without the tree of one that goes
pub node_at-without : (id : ℕ) (p : Placed) → node_at (place_without id p) ≡ record (node_at p) { children = ids_without id (roots_of p.below) }
node_at-without id p = ap (λ children. record (node_at p) { children = children }) (roots-taken_out p.below id)

-- a node of the page on the page without the tree of one
pub node_without : (page : Contents) (id k : ℕ) (n : Node) → node_of page k ≡ Some n → option_map node_at (option_map (place_without id) (placed_of page k)) ≡ Some (record n { children = ids_without id n.children })
node_without page id k n is =
    let seen = seen_at page k n is in
    ap (λ o. option_map node_at (option_map (place_without id) o)) seen.found
    ∙ ap Some (node_at-without id seen.place ∙ ap (λ (m : Node). record m { children = ids_without id m.children }) seen.node_is)

module _ (page : Contents) (valid : IsValid page) (id : ℕ) where
  pub valid-removed : IsValid (record page { tree = taken_out id page.tree })
  valid-removed = record {
    one_tree = rw (roots-taken_out page.tree id) (omega (arith, length-ids_without (roots_of page.tree) id, valid.one_tree));
    distinct = λ other. omega (arith, occurrences-taken_out page.tree id other, valid.distinct other);
    given = each-taken_out (IsGiven page.next) page.tree [] id valid.given;
    suited = each-taken_out IsSuited page.tree [] id valid.suited;
    depth = omega (arith, height-taken_out page.tree id, valid.depth);
    nodes = omega (arith, node_count-taken_out page.tree id, valid.nodes);
    boxes = omega (arith, total-taken_out boxes_in page.tree id, valid.boxes);
    vertices = omega (arith, total-taken_out vertices_in page.tree id, valid.vertices);
    next = valid.next;
    viewport = valid.viewport;
  }

  -- the only tree is that of the node
  whole_gone : (f : Forest) → length (roots_of f) ≤ 1 → is_among (roots_of f) id ≡ true → taken_out id f ≡ End
  whole_gone End one there = absurd (false≢true there)
  whole_gone (Grow n below End) one there = let here : n.id ≡ id = grind (arith, nat_tests) in taken_out-head n below End id here
  whole_gone (Grow n below (Grow n' below' others)) one there = absurd (omega arith)

  module _ (q : Placed) (found : placed_of page id ≡ Some q) (parent : ℕ) (below : parent_id q.above ≡ parent) where
    -- a node that isn't the parent has no child less
    pub other_node : (k : ℕ) → k ≢ parent → option_map node_at (option_map (place_without id) (placed_of page k)) ≡ node_of page k
    other_node k other = by_place (placed_of page k) refl
      where
        by_place : (o : Option Placed) → placed_of page k ≡ o → option_map node_at (option_map (place_without id) o) ≡ option_map node_at o
        by_place None is = refl
        by_place (Some p) is =
            let apart : parent_id q.above ≢ p.label.id = λ same. other (sym (id-placed_in page.tree [] k p is) ∙ sym same ∙ below) in
            ap Some (node_at-without id p ∙ ap (λ children. record (node_at p) { children = children }) (no_child page p.below (p.label ∷ p.above) id q (found-at_places page k p valid is) found apart))

    -- nodes that are looked up as those of the page, without those that go
    pub kept-removed : (first first' : Option ℕ) (look look' : ℕ → Option Node) (siblings ids : List ℕ) → IsKept look first page → siblings ≡ children_without page parent id → ids ≡ ids_in (tree_of page id) →
        ((k : ℕ) → look' k ≡ (if is_among ids k then None else changed_at parent (with_children siblings) k (look k))) → first' ≡ (if parent == 0 then None else first) →
        IsKept look' first' (record page { tree = taken_out id page.tree })
    kept-removed first first' look look' siblings ids kept siblings_are ids_are known first_is = record {
      valid = valid-removed;
      looked_up = λ k. known k ∙ ap (λ o. if is_among ids k then None else changed_at parent (with_children siblings) k o) (kept.looked_up k) ∙ looked_up_at k;
      root = root;
    }
      where
        among_is : (k : ℕ) → is_among ids k ≡ nat_lt 0 (occurrences (tree_of page id) k)
        among_is k = ap (λ xs. is_among xs k) ids_are ∙ is_among-ids_in (tree_of page id) k

        staying : (k : ℕ) → changed_at parent (with_children siblings) k (node_of page k) ≡ option_map node_at (option_map (place_without id) (placed_of page k))
        staying k = elim (cases_eq parent k) [
          | inl here ↦ changed-here parent (with_children siblings) k (node_of page k) here ∙ at_parent here (node_of page k) refl
          | inr other ↦ changed-other parent (with_children siblings) k (node_of page k) other ∙ sym (other_node k (λ same. other (sym same)))
        ]
          where
            unseen : (o : Option Placed) → option_map node_at o ≡ None → option_map node_at (option_map (place_without id) o) ≡ None
            unseen None none = refl
            unseen (Some p) none = absurd cc

            at_parent : parent ≡ k → (o : Option Node) → node_of page k ≡ o → option_map (with_children siblings) o ≡ option_map node_at (option_map (place_without id) (placed_of page k))
            at_parent here None seen = sym (unseen (placed_of page k) seen)
            at_parent here (Some n) seen =
                ap (λ c. Some (with_children c n)) (siblings_are ∙ ap (λ o. option_map_or (λ (m : Node). ids_without id m.children) o []) (ap (node_of page) here ∙ seen))
                ∙ sym (node_without page id k n seen)

        looked_up_at : (k : ℕ) → (if is_among ids k then None else changed_at parent (with_children siblings) k (node_of page k)) ≡ option_map node_at (placed_in [] (taken_out id page.tree) k)
        looked_up_at k =
            let parted = occurrences-parted page.tree [] id k (valid.distinct id) in
            elim (cases_lt 0 (occurrences (taken_out id page.tree) k)) [
              | inl stays ↦
                  let none : occurrences (tree_of page id) k ≡ 0 = omega (arith, parted, valid.distinct k) in
                  let keeps : is_among ids k ≡ false = among_is k ∙ ap (nat_lt 0) none in
                  rw (keeps, placed_in-taken_out page.tree [] id k (valid.distinct k) stays) (staying k)
              | inr few ↦
                  let goes : occurrences (taken_out id page.tree) k ≡ 0 = omega arith in
                  rw (node_in-absent (taken_out id page.tree) [] k goes) (elim (cases_lt 0 (occurrences (tree_of page id) k)) [
                    | inl some ↦ let drops : is_among ids k ≡ true = among_is k ∙ (grind (arith, nat_tests)) in rw drops refl
                    | inr none ↦
                        let keeps : is_among ids k ≡ false = among_is k ∙ (grind (arith, nat_tests)) in
                        rw (keeps, node_in-absent page.tree [] k (omega (arith, parted, none, goes))) (changed-none parent (with_children siblings) k)
                  ])
            ]

        root : option_to_list first' ≡ roots_of (taken_out id page.tree)
        root = elim (cases_eq parent 0) [
          | inl none_named ↦
              let is_root : is_among (roots_of page.tree) id ≡ true = elim (parent_there page page.tree [] id q (page-at_places page valid) found) [
                | inl at_head ↦ at_head.0
                | inr there ↦ absurd (false≢true (sym (ap is_some (placed_in-absent page.tree [] 0 (given-absent page.tree [] page.next 0 valid.given (inl refl)))) ∙ ap (has_id page) (sym (below ∙ none_named)) ∙ there))
              ] in
              let is : (parent == 0) ≡ true = grind (arith, nat_tests) in
              ap option_to_list (first_is ∙ ap (λ (b : Bool). if b then None else first) is) ∙ sym (ap roots_of (whole_gone page.tree valid.one_tree is_root))
          | inr named ↦
              let is : (parent == 0) ≡ false = grind (arith, nat_tests) in
              ap option_to_list (first_is ∙ ap (λ (b : Bool). if b then None else first) is) ∙ kept.root
              ∙ sym (roots-taken_out page.tree id ∙ no_child page page.tree [] id q (page-at_places page valid) found (λ none. named (sym below ∙ none)))
        ]

-- the place of a node that goes
pub record IsPlacedBelow (page : Contents) (id parent : ℕ) : Type 0 where
  pub place : Placed
  pub found : placed_of page id ≡ Some place
  pub parent_is : parent_id place.above ≡ parent

pub placed_below : (page : Contents) (id parent : ℕ) → option_map (λ (n : Node). n.parent) (node_of page id) ≡ Some parent → IsPlacedBelow page id parent
placed_below page id parent is = by_place (placed_of page id) refl is
  where
    by_place : (o : Option Placed) → placed_of page id ≡ o → option_map (λ (n : Node). n.parent) (option_map node_at o) ≡ Some parent → IsPlacedBelow page id parent
    by_place None found is' = absurd cc
    by_place (Some p) found is' = record { place = p; found = found; parent_is = cc }

-- each id of a tree was given
pub given_there : (f : Forest) (above : List Label) (next k : ℕ) → EachNode (IsGiven next) above f → 0 < occurrences f k → (0 < k) × (k < next)
given_there f above next k each some = (
  elim (cases_lt 0 k) [ inl positive ↦ positive | inr few ↦ absurd (omega (arith, some, given-absent f above next k each (inl (omega arith)))) ],
  elim (cases_lt k next) [ inl below ↦ below | inr late ↦ absurd (omega (arith, some, given-absent f above next k each (inr (omega arith)))) ],
)

-- a planned remove
module _ (nodes : NodesState) (frame : Frame) (counted : IsCounted nodes frame.root frame.sums (state_of nodes frame).contents) (parent : ℕ) (siblings ids : List ℕ) (gone : Vec Node Global) where
  abbrev page : Contents
  page = (state_of nodes frame).contents

  -- the ids are there, each once, and there is room for their nodes
  pub record CanTake (given : NodesState) : Type 0 where
    pub there : (k : ℕ) → is_among ids k ≡ true → IsSome (node_with given.nodes k)
    pub distinct : (k : ℕ) → times_in k ids ≤ 1
    pub none : gone.items ≡ []
    pub room : vec_len gone + length ids ≤ vec_capacity gone

  ids_distinct : (id : ℕ) → ids ≡ ids_in (tree_of page id) → (k : ℕ) → times_in k ids ≤ 1
  ids_distinct id ids_are k = omega (arith, ap (times_in k) ids_are, times_in-ids_in (tree_of page id) k, occurrences-parted page.tree [] id k (counted.kept.valid.distinct id), counted.kept.valid.distinct k)

  -- an id among them stands in the page
  stands : (id k : ℕ) → ids ≡ ids_in (tree_of page id) → is_among ids k ≡ true → 0 < occurrences page.tree k
  stands id k ids_are among =
      let is : nat_lt 0 (occurrences (tree_of page id) k) ≡ true = sym (ap (λ xs. is_among xs k) ids_are ∙ is_among-ids_in (tree_of page id) k) ∙ among in
      let some : 0 < occurrences (tree_of page id) k = grind (arith, nat_tests) in
      omega (arith, some, occurrences-parted page.tree [] id k (counted.kept.valid.distinct id))

  pub can_take : (edit : Edit) (given : NodesState) → IsPlanned (RemoveNodes parent siblings ids gone) edit (state_of nodes frame) → ChangesAt nodes given parent (with_children siblings) → CanTake given
  can_take (Remove id) given planned gives = record {
    there = λ k among.
        ap is_some (gives.looked_up k) ∙ is_some-changed parent (with_children siblings) k (node_with nodes.nodes k) ∙ ap is_some (counted.kept.looked_up k)
        ∙ is_some-node_at (placed_of page k) ∙ placed_in-present page.tree [] k (stands id k planned.plan_is.ids_are among);
    distinct = ids_distinct id planned.plan_is.ids_are;
    none = planned.plan_is.gone_none;
    room = planned.plan_is.gone_room;
  }
  can_take edit given planned gives = absurd planned.plan_is

  module _ (given new : NodesState) (out : Vec Node Global) (gives : ChangesAt nodes given parent (with_children siblings))
      (takes : (k : ℕ) → node_with new.nodes k ≡ (if is_among ids k then None else node_with given.nodes k)) (count : length new.nodes + length ids ≡ length given.nodes) (same_room : HasSameRoom given new)
      (ids_of_out : ids_of out.items ≡ ids) (from : AreFrom (node_with given.nodes) out.items) where
    -- a number of the nodes that went is that of the tree
    total_out : (weight : Label → ℕ) (id : ℕ) → ids ≡ ids_in (tree_of page id) → sum_by (λ n. weight (label_of n)) out.items ≡ total_over weight (tree_of page id)
    total_out weight id ids_are = by_place (placed_of page id) refl
      where
        sees : (k : ℕ) (n : Node) → node_with given.nodes k ≡ Some n → weight (label_of n) ≡ weight_of weight page k
        sees k n is = by_placed (placed_of page k) (sym (ap (changed_at parent (with_children siblings) k) (counted.kept.looked_up k)) ∙ sym (gives.looked_up k) ∙ is)
          where
            by_placed : (o : Option Placed) → changed_at parent (with_children siblings) k (option_map node_at o) ≡ Some n → weight (label_of n) ≡ option_map_or (λ (p : Placed). weight p.label) o 0
            by_placed None seen = absurd (none_some (sym (changed-none parent (with_children siblings) k) ∙ seen))
              where
                none_some : None ≡ Some n → ⊥
                none_some is' = cc
            by_placed (Some p) seen = by_test (parent == k) seen
              where
                by_test : (b : Bool) → (if b then option_map (with_children siblings) (Some (node_at p)) else Some (node_at p)) ≡ Some n → weight (label_of n) ≡ weight p.label
                by_test true seen' = let is' : with_children siblings (node_at p) ≡ n = cc in sym (ap (λ (m : Node). weight (label_of m)) is')
                by_test false seen' = let is' : node_at p ≡ n = cc in sym (ap (λ (m : Node). weight (label_of m)) is')

        by_place : (o : Option Placed) → placed_of page id ≡ o → sum_by (λ n. weight (label_of n)) out.items ≡ total_over weight (option_map_or (λ p. Grow p.label p.below End) o End)
        by_place None found =
            sum-of_tree weight page (λ n. weight (label_of n)) out.items (node_with given.nodes) sees from End [] tt (ids_of_out ∙ ids_are ∙ ap (λ o. ids_in (option_map_or (λ p. Grow p.label p.below End) o End)) found)
        by_place (Some p) found =
            sum-of_tree weight page (λ n. weight (label_of n)) out.items (node_with given.nodes) sees from (Grow p.label p.below End) p.above
            (ap (placed_of page) (id-placed_in page.tree [] id p found) ∙ found, (found-at_places page id p counted.kept.valid found, tt))
            (ids_of_out ∙ ids_are ∙ ap (λ o. ids_in (option_map_or (λ p'. Grow p'.label p'.below End) o End)) found)

    -- the boxes and the vertices that went are some of those of the page, which are few
    pub record SumsGo : Type 0 where
      pub boxes : (sums_over out.items).boxes ≤ frame.sums.boxes
      pub vertices : (sums_over out.items).vertices ≤ frame.sums.vertices
      pub few_boxes : frame.sums.boxes ≤ 262144
      pub few_vertices : frame.sums.vertices ≤ 1048576

    pub sums_go : (edit : Edit) → IsPlanned (RemoveNodes parent siblings ids gone) edit (state_of nodes frame) → SumsGo
    sums_go (Remove id) planned =
        let boxes_are = ap (λ (sums : Sums). sums.boxes) counted.sums_are in
        let vertices_are = ap (λ (sums : Sums). sums.vertices) counted.sums_are in
        record {
          boxes = omega (arith, total_out boxes_in id planned.plan_is.ids_are, total-parted boxes_in page.tree [] id (counted.kept.valid.distinct id), boxes_are);
          vertices = omega (arith, total_out vertices_in id planned.plan_is.ids_are, total-parted vertices_in page.tree [] id (counted.kept.valid.distinct id), vertices_are);
          few_boxes = omega (arith, boxes_are, counted.kept.valid.boxes);
          few_vertices = omega (arith, vertices_are, counted.kept.valid.vertices);
        }
    sums_go edit planned = absurd planned.plan_is

    pub planned-remove : (edit : Edit) (frame' : Frame) (had : List ℕ) → IsPlanned (RemoveNodes parent siblings ids gone) edit (state_of nodes frame) → had ≡ option_map_or (λ (n : Node). n.children) (node_with nodes.nodes parent) siblings →
        frame'.sums ≡ sums_less frame.sums (sums_over out.items) → frame'.root ≡ (if parent == 0 then None else frame.root) → frame'.viewport ≡ frame.viewport → frame'.next ≡ frame.next →
        Carries new frame' (Removed parent had out) (state_of nodes frame) edit
    planned-remove (Remove id) frame' had planned had_is sums_is root_is viewport_is next_is =
        let valid = counted.kept.valid in
        let plan = planned.plan_is in
        let placed = placed_below page id parent plan.parent_is in
        let known : (k : ℕ) → node_with new.nodes k ≡ (if is_among ids k then None else changed_at parent (with_children siblings) k (node_with nodes.nodes k)) = (λ k. takes k ∙ ap (λ o. if is_among ids k then None else o) (gives.looked_up k)) in
        let kept = kept-removed page valid id placed.place placed.found parent placed.parent_is frame.root frame'.root (node_with nodes.nodes) (node_with new.nodes) siblings ids counted.kept plan.siblings_are plan.ids_are known root_is in
        let count_ids : length ids ≡ node_count (tree_of page id) = ap (λ (xs : List ℕ). length xs) plan.ids_are ∙ length-ids_in (tree_of page id) in
        let parted = node_count-parted page.tree [] id (valid.distinct id) in
        let length_out : length out.items ≡ length ids = sym (length-ids_of out.items) ∙ ap (λ (xs : List ℕ). length xs) ids_of_out in
        let out_at : (k : ℕ) → node_with out.items k ≡ (if is_among ids k then node_with given.nodes k else None) = (λ k. node_with-from out.items (node_with given.nodes) k from ∙ ap (λ xs. if is_among xs k then node_with given.nodes k else None) ids_of_out) in
        carries new frame' (Removed parent had out) (state_of nodes frame) (Remove id) kept
        (record {
          count = omega (arith, count, gives.count, counted.count, count_ids, parted);
          sums = same_sums frame'.sums (sums_in (taken_out id page.tree))
              (omega (arith, ap (λ (sums : Sums). sums.boxes) sums_is, ap (λ (sums : Sums). sums.boxes) counted.sums_are, total_out boxes_in id plan.ids_are, total-parted boxes_in page.tree [] id (valid.distinct id)))
              (omega (arith, ap (λ (sums : Sums). sums.vertices) sums_is, ap (λ (sums : Sums). sums.vertices) counted.sums_are, total_out vertices_in id plan.ids_are, total-parted vertices_in page.tree [] id (valid.distinct id)));
          viewport = viewport_is;
          next = next_is;
          fits = omega (arith, count, gives.count, counted.fits, same_room.room, gives.same_room.room);
          placed = λ k positive below. omega (arith, counted.placed k positive below, same_room.ids, gives.same_room.ids);
        })
        (record {
          looked_up = λ k. sym (
              ap (λ o. changed_at parent (with_children had) k (option_or o (node_with out.items k))) (sym (kept.looked_up k) ∙ takes k)
              ∙ ap (λ o. changed_at parent (with_children had) k (option_or (if is_among ids k then None else node_with given.nodes k) o)) (out_at k)
              ∙ ap (changed_at parent (with_children had) k) (together (is_among ids k) (node_with given.nodes k) ∙ gives.looked_up k)
              ∙ children-back parent siblings had (node_with nodes.nodes) had_is k
              ∙ counted.kept.looked_up k);
          count = omega (arith, parted, count_ids, length_out);
          can_go_back = record {
            apart = λ k is. sym (kept.looked_up k) ∙ takes k ∙ by_among (is_among ids k) (node_with given.nodes k) (sym (ap is_some (out_at k)) ∙ is);
            distinct = λ k. omega (arith, ap (times_in k) ids_of_out, ids_distinct id plan.ids_are k);
            fits = omega (arith, parted, count_ids, length_out, counted.fits, counted.count, same_room.room, gives.same_room.room);
            placed = λ k is. given_there page.tree [] page.next k valid.given (stands id k plan.ids_are (among_of (is_among ids k) (node_with given.nodes k) (sym (ap is_some (out_at k)) ∙ is)));
          };
          fits = omega (arith, counted.fits, counted.count, same_room.room, gives.same_room.room);
          next = omega arith;
        })
        refl
      where
        together : (b : Bool) (o : Option Node) → option_or (if b then None else o) (if b then o else None) ≡ o
        together true o = refl
        together false o = or-none o

        among_of : (b : Bool) (o : Option Node) → is_some (if b then o else None) ≡ true → b ≡ true
        among_of true o is = refl
        among_of false o is = is

        by_among : (b : Bool) (o : Option Node) → is_some (if b then o else None) ≡ true → (if b then None else o) ≡ None
        by_among true o is = refl
        by_among false o is = absurd (false≢true is)
    planned-remove edit frame' had planned had_is sums_is root_is viewport_is next_is = absurd planned.plan_is
