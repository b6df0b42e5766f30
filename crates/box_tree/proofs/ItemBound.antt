-- How many items a page has at most once a plan is carried out.
use Rattle.std.proofs.Common.{◌≡◌, ℕ, ◌+◌, ◌-◌, ◌≤◌, List, [], ◌∷◌, length, Option, Some, None, is_some, true, refl, sym, ap, ◌∙◌, subst, arith, length-append}
use Rattle.std.specs.Prelude.{IfSome}
use Rattle.std.specs.Option.{option_map}
use Rattle.std.proofs.lemmas.Bool.Decides.{nat_tests}
use Rattle.std.proofs.lemmas.Option.{same_Some}
use Rattle.fractions.specs.declared.rect.Spot.{Spot}
use Rattle.box_tree.specs.declared.edit.Edit.{Edit}
use Rattle.box_tree.specs.declared.edit.Edit.TheVariants.{Add, Place, Restyle, Reshape, Scroll as ScrollNode}
use Rattle.box_tree.specs.declared.kind.Kind.{Kind}
use Rattle.box_tree.specs.declared.kind.Kind.TheVariants.{Image, Shape}
use Rattle.box_tree.specs.declared.node.Node.{Node}
use Rattle.box_tree.specs.declared.page.numbers.Touched.{Touched}
use Rattle.box_tree.specs.declared.piece.Piece.{Piece}
use Rattle.box_tree.specs.declared.plan.Layout.{Layout as Laid}
use Rattle.box_tree.specs.declared.plan.Change.TheVariants.{Layout, Style, Form, Scroll}
use Rattle.box_tree.specs.declared.plan.Plan.{Plan}
use Rattle.box_tree.specs.declared.plan.Plan.TheVariants.{AddNode, RemoveNodes, MoveNodes, ChangeNode, ResizeViewport, ScrollViewport}
use Rattle.box_tree.specs.Change.{changed}
use Rattle.box_tree.specs.Contents.{Contents, node_of, node_at, placed_of, has_id, IsSuited, IsValid}
use Rattle.box_tree.specs.Edited.{relabelled, laid_out, restyled, reshaped, scrolled_node}
use Rattle.box_tree.specs.Forest.{Label, Forest, End, Grow, Placed, node_count}
use Rattle.box_tree.specs.Items.{box_items, drawn_as, drawn, items_of, items_at, node_items, item_count}
use Rattle.box_tree.specs.Kept.{with_label}
use Rattle.box_tree.specs.Numbers.{ItemsState, IsNumbered}
use Rattle.box_tree.specs.Planned.{IsPlanned}
use Rattle.box_tree.specs.Totals.{total_over, box_count}
use Rattle.box_tree.specs.Touched.{item_count_of, touched, touched_as, HasRoomAmong}
use Rattle.box_tree.specs.TreeState.{TreeState}
use Rattle.box_tree.proofs.AddLemmas.{may_add}
use Rattle.box_tree.proofs.BoxLemmas.{boxes_in, weight_at, boxes_changed}
use Rattle.box_tree.proofs.ItemCount.{count_is}
use Rattle.box_tree.proofs.ItemLemmas.{length-box_items}
use Rattle.box_tree.proofs.MoveLemmas.{each-placed}
use Rattle.box_tree.proofs.PlaceLemmas.{may_place}
use Rattle.box_tree.proofs.TotalLemmas.{weight-placed}

drawn_few : (kind : Kind) (id : ℕ) (boxes : List Piece) → length (drawn_as kind id boxes) ≤ 1
drawn_few Image id [] = omega arith
drawn_few Image id (box ∷ boxes) = omega arith
drawn_few Shape id boxes = omega arith
drawn_few kind id boxes = omega arith

-- a node has one item more than boxes at most
items_few : (n : Label) → length (items_of n) ≤ length n.boxes + 1
items_few n = omega (arith, length-append (box_items n.id 0 n.boxes) (drawn n), length-box_items n.id 0 n.boxes, drawn_few n.kind n.id n.boxes)

count_few : (kind : Kind) (boxes : ℕ) → item_count_of kind boxes ≤ boxes + 1
count_few Image boxes = grind (arith, nat_tests)
count_few Shape boxes = omega arith
count_few kind boxes = omega arith

-- how many items fewer a node has
abbrev slack_in : Label → ℕ
slack_in n = (length n.boxes + 1) - length (items_of n)

total_slack : (f : Forest) → total_over slack_in f + item_count f ≡ box_count f + node_count f
total_slack End = refl
total_slack (Grow n below others) = omega (arith, items_few n, total_slack below, total_slack others)

-- so has a page, with what one of its nodes lacks
items_with : (page : Contents) (id : ℕ) (n : Node) → node_of page id ≡ Some n → item_count page.tree + (length n.boxes + 1) ≤ box_count page.tree + node_count page.tree + length (node_items page id)
items_with page id n is = by_place (placed_of page id) refl is
  where
    by_place : (o : Option Placed) → placed_of page id ≡ o → option_map node_at o ≡ Some n → item_count page.tree + (length n.boxes + 1) ≤ box_count page.tree + node_count page.tree + length (node_items page id)
    by_place None found is' = absurd cc
    by_place (Some p) found is' =
        let here : node_at p ≡ n = same_Some (node_at p) n is' in
        let boxes_are : length p.label.boxes ≡ length n.boxes = ap (λ (m : Node). length m.boxes) here in
        let items_are : length (node_items page id) ≡ length (items_of p.label) = ap (λ o. length (items_at (option_map node_at o))) found in
        omega (arith, total_slack page.tree, weight-placed slack_in page.tree [] id p found, items_few p.label, boxes_are, items_are)

items_total : (page : Contents) → item_count page.tree ≤ box_count page.tree + node_count page.tree
items_total page = omega (arith, total_slack page.tree)

-- there is room for a node's items among all that a page may have
abbrev pub HasFew : Contents → Touched → Type 0
HasFew page t = (item_count page.tree + t.count ≤ 327680 + length (node_items page t.id)) × (t.count ≤ 1025)

module _ (page : Contents) (valid : IsValid page) (id : ℕ) (n : Node) (is : node_of page id ≡ Some n) where
  -- the boxes of a node are among all
  boxes_among : length n.boxes ≤ box_count page.tree
  boxes_among = by_place (placed_of page id) refl is
    where
      by_place : (o : Option Placed) → placed_of page id ≡ o → option_map node_at o ≡ Some n → length n.boxes ≤ box_count page.tree
      by_place None found is' = absurd cc
      by_place (Some p) found is' = omega (arith, weight-placed (λ m. length m.boxes) page.tree [] id p found, ap (λ (m : Node). length m.boxes) (same_Some (node_at p) n is'))

  few_changed : (l : Laid) (boxes : ℕ) → length l.boxes ≡ boxes → boxes ≤ 1024 → boxes + (box_count page.tree - length n.boxes) ≤ 262144 → HasFew page (touched_as id l n)
  few_changed l boxes same few total = (
    omega (arith, same, items_with page id n is, count_few n.kind (length l.boxes), total, boxes_among, valid.nodes),
    omega (arith, same, few, count_few n.kind (length l.boxes)),
  )

  few_placed : (l : Laid) (anchor : Spot) (boxes : List Piece) (max : Spot) → length l.boxes ≡ length boxes → length boxes ≤ 1024 → box_count (relabelled id (laid_out anchor boxes max) page.tree) ≤ 262144 → HasFew page (touched_as id l n)
  few_placed l anchor boxes max same few total =
      let there : has_id page id ≡ true = by_place (placed_of page id) is in
      let gone : length n.boxes ≡ weight_at boxes_in (node_of page id) = sym (ap (weight_at boxes_in) is) in
      let changes = boxes_changed page id anchor boxes max (length n.boxes) valid gone there in
      few_changed l (length boxes) same few (omega (arith, changes.total, total))
    where
      by_place : (o : Option Placed) → option_map node_at o ≡ Some n → is_some o ≡ true
      by_place None is' = absurd cc
      by_place (Some p) is' = refl

  -- a change that leaves the boxes
  few_kept : (l : Laid) → length l.boxes ≡ length n.boxes → HasFew page (touched_as id l n)
  few_kept l same = few_changed l (length n.boxes) same few (omega (arith, boxes_among, valid.boxes))
    where
      few : length n.boxes ≤ 1024
      few = by_place (placed_of page id) refl is
        where
          by_place : (o : Option Placed) → placed_of page id ≡ o → option_map node_at o ≡ Some n → length n.boxes ≤ 1024
          by_place None found is' = absurd cc
          by_place (Some p) found is' = omega (arith, (each-placed IsSuited page.tree [] id p valid.suited found).0.box_count, ap (λ (m : Node). length m.boxes) (same_Some (node_at p) n is'))

-- the boxes that a layout gives are those that the edit makes of the node
module _ (page : Contents) (id : ℕ) (l : Laid) (n : Node) (is : node_of page id ≡ Some n) where
  given_boxes : (relabel : Label → Label) → option_map (with_label (changed (Layout l))) (node_of page id) ≡ option_map (with_label relabel) (node_of page id) → length l.boxes ≡ length (with_label relabel n).boxes
  given_boxes relabel same =
      ap (λ (m : Node). length m.boxes) (same_Some (with_label (changed (Layout l)) n) (with_label relabel n) (sym (ap (option_map (with_label (changed (Layout l)))) is) ∙ same ∙ ap (option_map (with_label relabel)) is))

-- a planned edit leaves no more items than a page may have
pub few_after : (plan : Plan) (edit : Edit) (state : TreeState) → IsPlanned plan edit state → IsValid state.contents → IfSome (touched plan (node_of state.contents)) (HasFew state.contents)
few_after (AddNode node place spare) (Add parent at kind boxes style) state planned valid =
    let may = may_add state.contents parent at kind style boxes planned.faultless in
    let boxes_are : length node.boxes ≡ length boxes = ap (λ (n : Node). length n.boxes) planned.plan_is.node_is in
    let few = count_few node.kind (length node.boxes) in
    (omega (arith, boxes_are, few, items_total state.contents, may.total, may.nodes), omega (arith, boxes_are, few, may.few))
few_after (AddNode node place spare) edit state planned valid = absurd planned.plan_is
few_after (RemoveNodes parent siblings ids gone) edit state planned valid = tt
few_after (MoveNodes place siblings children ids) edit state planned valid = tt
few_after (ChangeNode id (Layout l)) edit state planned valid = by_node (node_of state.contents id) refl
  where
    kept : (n : Node) → node_of state.contents id ≡ Some n → (relabel : Label → Label) → length (with_label relabel n).boxes ≡ length n.boxes → (id' : ℕ) → id ≡ id' → option_map (with_label (changed (Layout l))) (node_of state.contents id') ≡ option_map (with_label relabel) (node_of state.contents id') → HasFew state.contents (touched_as id l n)
    kept n is relabel leaves id' same change_is =
        let boxes_are = given_boxes state.contents id l n is relabel (subst (λ (i : ℕ). option_map (with_label (changed (Layout l))) (node_of state.contents i) ≡ option_map (with_label relabel) (node_of state.contents i)) (sym same) change_is) in
        few_kept state.contents valid id n is l (boxes_are ∙ leaves)

    by_edit : (n : Node) → node_of state.contents id ≡ Some n → (e : Edit) → IsPlanned (ChangeNode id (Layout l)) e state → HasFew state.contents (touched_as id l n)
    by_edit n is (Place id' anchor boxes max) planned' =
        let may = may_place state.contents id' anchor boxes max planned'.faultless in
        let same = planned'.plan_is.id_is in
        few_placed state.contents valid id n is l anchor boxes max
        (given_boxes state.contents id l n is (laid_out anchor boxes max) (subst (λ (i : ℕ). option_map (with_label (changed (Layout l))) (node_of state.contents i) ≡ option_map (with_label (laid_out anchor boxes max)) (node_of state.contents i)) (sym same) planned'.plan_is.change_is))
        may.few (subst (λ (i : ℕ). box_count (relabelled i (laid_out anchor boxes max) state.contents.tree) ≤ 262144) (sym same) may.total)
    by_edit n is (Restyle id' style) planned' = kept n is (restyled style) refl id' planned'.plan_is.id_is planned'.plan_is.change_is
    by_edit n is (Reshape id' form) planned' = kept n is (reshaped form) refl id' planned'.plan_is.id_is planned'.plan_is.change_is
    by_edit n is (ScrollNode id' x y) planned' = kept n is (scrolled_node x y) refl id' planned'.plan_is.id_is planned'.plan_is.change_is
    by_edit n is e planned' = absurd planned'.plan_is

    by_node : (o : Option Node) → node_of state.contents id ≡ o → IfSome (option_map (λ n. touched_as id l n) o) (HasFew state.contents)
    by_node None is = tt
    by_node (Some n) is = by_edit n is edit planned
few_after (ChangeNode id (Style style)) edit state planned valid = tt
few_after (ChangeNode id (Form form)) edit state planned valid = tt
few_after (ChangeNode id (Scroll scroll)) edit state planned valid = tt
few_after (ResizeViewport w h max) edit state planned valid = tt
few_after (ScrollViewport to) edit state planned valid = tt

-- and so no more numbers
pub room_among : (plan : Plan) (edit : Edit) (state : TreeState) (s : ItemsState) → IsPlanned plan edit state → IsValid state.contents → IsNumbered s (node_items state.contents) → IfSome (touched plan (node_of state.contents)) (HasRoomAmong s)
room_among plan edit state s planned valid numbered = by_touched (touched plan (node_of state.contents)) (few_after plan edit state planned valid)
  where
    by_touched : (o : Option Touched) → IfSome o (HasFew state.contents) → IfSome o (HasRoomAmong s)
    by_touched None few = tt
    by_touched (Some t) few = record { most = omega (arith, few.0, count_is state.contents valid s numbered, numbered.count t.id); few = few.1 }
