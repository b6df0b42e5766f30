-- What is gathered from a child: what it gives itself, and then what is below it.
use Rattle.std.proofs.Common.{◌≡◌, ℕ, ◌+◌, ◌<◌, ◌≤◌, List, [], ◌∷◌, ◌++◌, length, get_or, map, Option, Some, Bool, true, false, cond, refl, sym, ap, ◌∙◌, subst, append_assoc}
use Rattle.std.specs.Prelude.{if◌then◌else◌, ◌&&◌, pos}
use Rattle.std.specs.List.{filter, flat_map}
use Rattle.std.proofs.lemmas.List.{append-nil, map-append}
use Rattle.std.proofs.lemmas.List.Elements.{filter-append}
use Rattle.box_tree.specs.declared.node.Node.{Node}
use Rattle.box_tree.specs.declared.item.Item.{Item}
use Rattle.box_tree.specs.Forest.{Label, Placed}
use Rattle.box_tree.specs.Contents.{Contents, node_of, has_id, ancestor_count, IsValid}
use Rattle.box_tree.specs.Kept.{label_of}
use Rattle.box_tree.specs.Suits.{is_text, is_svg_content}
use Rattle.box_tree.specs.Used.{is_in_flow, is_real_context, stack_level}
use Rattle.box_tree.proofs.SubtreeLemmas.{few_ancestors, ancestor_count-child}
use Rattle.stacking.specs.declared.pieces.LinePart.{LinePart}
use Rattle.stacking.specs.declared.pieces.Painted.TheVariants as painted
use Rattle.stacking.specs.declared.pieces.LineRole.{LineRole}
use Rattle.stacking.specs.declared.pieces.LineRole.TheVariants as role
use Rattle.stacking.specs.declared.members.Member.{Member}
use Rattle.stacking.specs.Painting.{Whole, Share, at, is_entered, is_member, is_inline, is_atom, own_pieces, first_line, shares_in, drawn}
use Rattle.stacking.specs.OnPage.{of_node, ids_of, gathered_in, gathered, part_of, line_parts, member_of, members_of, outlines_of}
use Rattle.stacking.proofs.PageLemmas.{gathered_from, shared, child_place, child-there, of_node-child, gathered-step, role-seen, child_label-seen, id-child, gathered-end}

-- a list with two parts appended, before what is left
appended_twice : {A : Type 0} (x a b rest all x' x'' : List A) → x' ≡ x ++ a → x'' ≡ x' ++ b → x ++ ((a ++ b) ++ rest) ≡ all → x'' ++ rest ≡ all
appended_twice x a b rest all x' x'' e e' known =
    ap (λ xs. xs ++ rest) (e' ∙ ap (λ xs. xs ++ b) e ∙ append_assoc x a b) ∙ append_assoc x (a ++ b) rest ∙ known

-- the nodes that are met and pass a test, by their ids
abbrev pub met_ids : (Option Label → Label → Bool) → Share → List ℕ
met_ids test s = ids_of (filter (at test) s.reach)

pub ids-met : (test : Option Label → Label → Bool) (ss : List Share) → ids_of (filter (at test) (flat_map (λ s. s.reach) ss)) ≡ flat_map (met_ids test) ss
ids-met test [] = refl
ids-met test (s ∷ ss) =
    ap ids_of (filter-append (at test) s.reach (flat_map (λ s'. s'.reach) ss))
    ∙ map-append (λ (p : Placed). p.label.id) (filter (at test) s.reach) (filter (at test) (flat_map (λ s'. s'.reach) ss))
    ∙ ap (λ xs. met_ids test s ++ xs) (ids-met test ss)

shared-met : (test : Option Label → Label → Bool) (p : Placed) → shared (met_ids test) p ≡ (if at test p then p.label.id ∷ [] else []) ++ (if at is_entered p then gathered_in (met_ids test) p else [])
shared-met test p = by_tests (at test p) (at is_entered p)
  where
    by_tests : (b e : Bool) → ids_of (cond b (p ∷ filter (at test) (if e then flat_map (λ s. s.reach) (shares_in p) else [])) (filter (at test) (if e then flat_map (λ s. s.reach) (shares_in p) else []))) ≡ (if b then p.label.id ∷ [] else []) ++ (if e then gathered_in (met_ids test) p else [])
    by_tests true true = ap (λ xs. p.label.id ∷ xs) (ids-met test (shares_in p))
    by_tests true false = refl
    by_tests false true = ids-met test (shares_in p)
    by_tests false false = refl

map-pieces : (ss : List Share) → map part_of (flat_map (λ s. s.pieces) ss) ≡ flat_map line_parts ss
map-pieces [] = refl
map-pieces (s ∷ ss) = map-append part_of s.pieces (flat_map (λ s'. s'.pieces) ss) ∙ ap (λ xs. line_parts s ++ xs) (map-pieces ss)

pub pieces-gathered : (p : Placed) → map part_of (flat_map (λ s. s.pieces) (shares_in p)) ≡ gathered_in line_parts p
pieces-gathered p = map-pieces (shares_in p)

map-members : (ss : List Share) → map member_of (flat_map (λ s. s.members) ss) ≡ flat_map members_of ss
map-members [] = refl
map-members (s ∷ ss) = map-append member_of s.members (flat_map (λ s'. s'.members) ss) ∙ ap (λ xs. members_of s ++ xs) (map-members ss)

pub members-gathered : (p : Placed) → map member_of (flat_map (λ s. s.members) (shares_in p)) ≡ gathered_in members_of p
members-gathered p = map-members (shares_in p)

-- what a child gives to the lines, by its role
abbrev pub parts_by : LineRole → Label → List LinePart → List LinePart
parts_by role.Boxes n inner = map part_of (own_pieces n)
parts_by role.BoxesAndBelow n inner = map part_of (own_pieces n) ++ inner
parts_by role.Whole n inner = record { line = first_line n.boxes; what = painted.Whole n.id } ∷ []
parts_by role.Nothing n inner = []

abbrev pub role_of : Option Label → Label → LineRole
role_of parent n =
    if is_text n.kind then role.Boxes
    else if is_in_flow parent n && is_inline parent n then role.BoxesAndBelow
    else if is_atom parent n then role.Whole
    else role.Nothing

shared-parts : (p : Placed) → shared line_parts p ≡ parts_by (at role_of p) p.label (gathered_in line_parts p)
shared-parts p = by_tests (is_text p.label.kind) (at is_in_flow p && at is_inline p) (at is_atom p)
  where
    by_tests : (text inline atom : Bool) →
        map part_of (if text then own_pieces p.label else if inline then own_pieces p.label ++ flat_map (λ s. s.pieces) (shares_in p) else if atom then record { line = first_line p.label.boxes; paint = Whole p } ∷ [] else [])
        ≡ parts_by (if text then role.Boxes else if inline then role.BoxesAndBelow else if atom then role.Whole else role.Nothing) p.label (gathered_in line_parts p)
    by_tests true inline atom = refl
    by_tests false true atom = map-append part_of (own_pieces p.label) (flat_map (λ s. s.pieces) (shares_in p)) ∙ ap (λ xs. map part_of (own_pieces p.label) ++ xs) (pieces-gathered p)
    by_tests false false true = refl
    by_tests false false false = refl

-- a child as a member
abbrev pub member_by : Option Label → Label → List Member
member_by parent n =
    if is_member parent n
    then record { level = if is_real_context parent n then stack_level parent n else pos 0; node = n.id; is_context = is_real_context parent n } ∷ []
    else []

shared-members : (p : Placed) → shared members_of p ≡ at member_by p ++ (if at is_real_context p then [] else gathered_in members_of p)
shared-members p = by_tests (at is_member p) (at is_real_context p)
  where
    by_tests : (b r : Bool) → map member_of ((if b then p ∷ [] else []) ++ (if r then [] else flat_map (λ s. s.members) (shares_in p))) ≡ (if b then member_of p ∷ [] else []) ++ (if r then [] else gathered_in members_of p)
    by_tests true true = refl
    by_tests true false = ap (λ xs. member_of p ∷ xs) (members-gathered p)
    by_tests false true = refl
    by_tests false false = members-gathered p

-- a child of a node as both are read
module _ (page : Contents) (valid : IsValid page) (id : ℕ) (node : Node) (seen : node_of page id ≡ Some node) (items : List ℕ) (items_are : items ≡ node.children) (k : ℕ) where
  -- nothing is left after the last child
  pub gathered-all : {A : Type 0} (of_share : Share → List A) (xs all : List A) → length items ≤ k → xs ++ of_node (gathered_from of_share k) page id ≡ all → xs ≡ all
  gathered-all of_share xs all last known =
      sym (append-nil xs) ∙ ap (λ ys. xs ++ ys) (sym (gathered-end page valid id node seen of_share k (subst (λ (ids : List ℕ). length ids ≤ k) items_are last))) ∙ known

  module _ (within : k < length items) where
    abbrev child : ℕ
    child = get_or items k 0

    in_list : k < length node.children
    in_list = subst (λ (ids : List ℕ). k < length ids) items_are within

    child_is : get_or node.children k 0 ≡ get_or items k 0
    child_is = ap (λ (ids : List ℕ). get_or ids k 0) (sym items_are)

    abbrev place : Placed
    place = child_place page valid id node seen k (get_or items k 0) 0 in_list child_is

    pub there : has_id page (get_or items k 0) ≡ true
    there = child-there page valid id node seen k (get_or items k 0) 0 in_list child_is

    -- it has fewer levels left
    pub deeper : ancestor_count page (get_or items k 0) ≡ 1 + ancestor_count page id
    deeper = ancestor_count-child page valid id node seen k (get_or items k 0) 0 in_list child_is

    pub not_deepest : ancestor_count page id ≤ 255
    not_deepest = few_ancestors page valid id node seen

    step : {A : Type 0} (of_share : Share → List A) → of_node (gathered_from of_share k) page id ≡ shared of_share place ++ of_node (gathered_from of_share (k + 1)) page id
    step of_share =
        gathered-step page valid id node seen k (get_or items k 0) 0 in_list child_is of_share
        ∙ ap (λ xs. xs ++ of_node (gathered_from of_share (k + 1)) page id) (of_node-child page valid id node seen k (get_or items k 0) 0 in_list child_is (shared of_share))

    below : {A : Type 0} (of_share : Share → List A) → gathered of_share page (get_or items k 0) ≡ gathered_in of_share place
    below of_share = of_node-child page valid id node seen k (get_or items k 0) 0 in_list child_is (gathered_in of_share)

    module _ (inner : Node) (seen' : node_of page (get_or items k 0) ≡ Some inner) where
      word : {A : Type 0} (w : Option Label → Label → A) → w (Some (label_of node)) (label_of inner) ≡ at w place
      word w = role-seen page valid id node seen k (get_or items k 0) 0 in_list child_is w inner seen'

      -- the nodes that are met
      pub met-more : (test : Option Label → Label → Bool) (b e : Bool) → b ≡ test (Some (label_of node)) (label_of inner) → e ≡ is_entered (Some (label_of node)) (label_of inner) → (xs xs' xs'' all : List ℕ) →
          xs' ≡ xs ++ (if b then get_or items k 0 ∷ [] else []) → xs'' ≡ xs' ++ (if e then gathered (met_ids test) page (get_or items k 0) else []) →
          xs ++ of_node (gathered_from (met_ids test) k) page id ≡ all → xs'' ++ of_node (gathered_from (met_ids test) (k + 1)) page id ≡ all
      met-more test b e b_is e_is xs xs' xs'' all first second known =
          let share_is : shared (met_ids test) place ≡ (if b then get_or items k 0 ∷ [] else []) ++ (if e then gathered (met_ids test) page (get_or items k 0) else []) =
          shared-met test place
          ∙ ap (λ c. (if c then place.label.id ∷ [] else []) ++ (if at is_entered place then gathered_in (met_ids test) place else [])) (sym (b_is ∙ word test))
          ∙ ap (λ (i : ℕ). (if b then i ∷ [] else []) ++ (if at is_entered place then gathered_in (met_ids test) place else [])) (id-child page valid id node seen k (get_or items k 0) 0 in_list child_is)
          ∙ ap (λ c. (if b then get_or items k 0 ∷ [] else []) ++ (if c then gathered_in (met_ids test) place else [])) (sym (e_is ∙ word is_entered))
          ∙ ap (λ ys. (if b then get_or items k 0 ∷ [] else []) ++ (if e then ys else [])) (sym (below (met_ids test))) in
          appended_twice xs (if b then get_or items k 0 ∷ [] else []) (if e then gathered (met_ids test) page (get_or items k 0) else []) (of_node (gathered_from (met_ids test) (k + 1)) page id) all xs' xs'' first second
          (ap (λ ys. xs ++ (ys ++ of_node (gathered_from (met_ids test) (k + 1)) page id)) (sym share_is) ∙ ap (λ ys. xs ++ ys) (sym (step (met_ids test))) ∙ known)

      -- the pieces of lines
      pub parts-more : (r : LineRole) → r ≡ role_of (Some (label_of node)) (label_of inner) → (xs xs' all : List LinePart) →
          xs' ≡ xs ++ parts_by r (label_of inner) (gathered line_parts page (get_or items k 0)) →
          xs ++ of_node (gathered_from line_parts k) page id ≡ all → xs' ++ of_node (gathered_from line_parts (k + 1)) page id ≡ all
      parts-more r r_is xs xs' all more known =
          let share_is : shared line_parts place ≡ parts_by r (label_of inner) (gathered line_parts page (get_or items k 0)) =
          shared-parts place
          ∙ ap (λ q. parts_by q place.label (gathered_in line_parts place)) (sym (r_is ∙ word role_of))
          ∙ ap (λ (n : Label). parts_by r n (gathered_in line_parts place)) (sym (child_label-seen page valid id node seen k (get_or items k 0) 0 in_list child_is inner seen'))
          ∙ ap (parts_by r (label_of inner)) (sym (below line_parts)) in
          ap (λ ys. ys ++ of_node (gathered_from line_parts (k + 1)) page id) more
          ∙ append_assoc xs (parts_by r (label_of inner) (gathered line_parts page (get_or items k 0))) (of_node (gathered_from line_parts (k + 1)) page id)
          ∙ ap (λ ys. xs ++ (ys ++ of_node (gathered_from line_parts (k + 1)) page id)) (sym share_is) ∙ ap (λ ys. xs ++ ys) (sym (step line_parts)) ∙ known

      -- the members
      pub members-more : (r : Bool) → r ≡ is_real_context (Some (label_of node)) (label_of inner) → (xs xs' xs'' all : List Member) →
          xs' ≡ xs ++ member_by (Some (label_of node)) (label_of inner) → xs'' ≡ xs' ++ (if r then [] else gathered members_of page (get_or items k 0)) →
          xs ++ of_node (gathered_from members_of k) page id ≡ all → xs'' ++ of_node (gathered_from members_of (k + 1)) page id ≡ all
      members-more r r_is xs xs' xs'' all first second known =
          let share_is : shared members_of place ≡ member_by (Some (label_of node)) (label_of inner) ++ (if r then [] else gathered members_of page (get_or items k 0)) =
          shared-members place
          ∙ ap (λ ys. ys ++ (if at is_real_context place then [] else gathered_in members_of place)) (sym (word member_by))
          ∙ ap (λ c. member_by (Some (label_of node)) (label_of inner) ++ (if c then [] else gathered_in members_of place)) (sym (r_is ∙ word is_real_context))
          ∙ ap (λ ys. member_by (Some (label_of node)) (label_of inner) ++ (if r then [] else ys)) (sym (below members_of)) in
          appended_twice xs (member_by (Some (label_of node)) (label_of inner)) (if r then [] else gathered members_of page (get_or items k 0)) (of_node (gathered_from members_of (k + 1)) page id) all xs' xs'' first second
          (ap (λ ys. xs ++ (ys ++ of_node (gathered_from members_of (k + 1)) page id)) (sym share_is) ∙ ap (λ ys. xs ++ ys) (sym (step members_of)) ∙ known)

      -- the outlines
      pub outlines-more : (b : Bool) → b ≡ is_svg_content inner.kind → (xs xs' all : List Item) →
          xs' ≡ xs ++ (if b then drawn (label_of inner) ++ gathered outlines_of page (get_or items k 0) else []) →
          xs ++ of_node (gathered_from outlines_of k) page id ≡ all → xs' ++ of_node (gathered_from outlines_of (k + 1)) page id ≡ all
      outlines-more b b_is xs xs' all more known =
          let part : List Item = if b then drawn (label_of inner) ++ gathered outlines_of page (get_or items k 0) else [] in
          let share_is : shared outlines_of place ≡ part =
          ap (λ c. if c then drawn place.label ++ gathered_in outlines_of place else []) (sym (b_is ∙ word (λ parent n. is_svg_content n.kind)))
          ∙ ap (λ (n : Label). if b then drawn n ++ gathered_in outlines_of place else []) (sym (child_label-seen page valid id node seen k (get_or items k 0) 0 in_list child_is inner seen'))
          ∙ ap (λ ys. if b then drawn (label_of inner) ++ ys else []) (sym (below outlines_of)) in
          ap (λ ys. ys ++ of_node (gathered_from outlines_of (k + 1)) page id) more
          ∙ append_assoc xs part (of_node (gathered_from outlines_of (k + 1)) page id)
          ∙ ap (λ ys. xs ++ (ys ++ of_node (gathered_from outlines_of (k + 1)) page id)) (sym share_is) ∙ ap (λ ys. xs ++ ys) (sym (step outlines_of)) ∙ known
