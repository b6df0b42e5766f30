-- The items of a page have their numbers after an edit.
use Rattle.std.proofs.Common.{◌≡◌, ◌≢◌, ◌⊎◌, ℕ, ◌<◌, ◌≤◌, ◌==◌, List, [], length, take, get_or, Option, Some, None, Bool, true, false, if◌then◌else◌, refl, sym, ap, ◌∙◌, subst, inl, inr, arith}
use Rattle.std.specs.Prelude.{slice_get, IfSome}
use Rattle.std.specs.Option.{option_map}
use Rattle.std.proofs.lemmas.Bool.{cases_eq}
use Rattle.std.proofs.lemmas.Bool.Decides.{nat_tests}
use Rattle.std.proofs.lemmas.List.{length-take}
use Rattle.std.proofs.lemmas.Option.{same_Some}
use Rattle.box_tree.specs.declared.edit.Edit.{Edit}
use Rattle.box_tree.specs.declared.edit.Edit.TheVariants.{Add}
use Rattle.box_tree.specs.declared.item.Item.{Item}
use Rattle.box_tree.specs.declared.items.Spare.{Spare}
use Rattle.box_tree.specs.declared.kind.Kind.{Kind}
use Rattle.box_tree.specs.declared.node.Node.{Node}
use Rattle.box_tree.specs.declared.page.numbers.Touched.{Touched}
use Rattle.box_tree.specs.declared.piece.Piece.{Piece}
use Rattle.box_tree.specs.declared.plan.Layout.{Layout as Laid}
use Rattle.box_tree.specs.declared.plan.Change.TheVariants.{Layout, Style, Form, Scroll}
use Rattle.box_tree.specs.declared.plan.Plan.{Plan}
use Rattle.box_tree.specs.declared.plan.Plan.TheVariants.{AddNode, RemoveNodes, MoveNodes, ChangeNode, ResizeViewport, ScrollViewport}
use Rattle.box_tree.specs.Change.{changed}
use Rattle.box_tree.specs.Contents.{Contents, node_of, IsValid}
use Rattle.box_tree.specs.Items.{items_at, node_items}
use Rattle.box_tree.specs.Kept.{with_label}
use Rattle.box_tree.specs.Nodes.{changed_at}
use Rattle.box_tree.specs.Numbers.{ItemsState, numbers_of, place_of, Names, IsNumbered, IsNumberedPage}
use Rattle.box_tree.specs.Planned.{is_among, IsPlanned}
use Rattle.box_tree.specs.Renumbered.{IsResized, IsTakenFrom, with_fewer}
use Rattle.box_tree.specs.Sound.{AreSound}
use Rattle.box_tree.specs.Touched.{item_count_of, touched, touched_as, CanTouch, seen_of, seen_after, IsRenumbered, IsRenumberedBy}
use Rattle.box_tree.specs.TreeState.{TreeState}
use Rattle.box_tree.proofs.FollowLemmas.{Follows, ArePlaced, numbered-after, follows-grown, follows-fewer, fronts-fewer, fronts-taken, list_here, list_elsewhere}
use Rattle.box_tree.proofs.ForestLemmas.{node_in-absent}
use Rattle.box_tree.proofs.ItemLemmas.{AreItems, items_valid}
use Rattle.box_tree.proofs.KeptLemmas.{changed-none, changed-here, changed-other}
use Rattle.box_tree.proofs.NumberLemmas.{was_given}
use Rattle.box_tree.proofs.PutLemmas.{given-absent}
use Rattle.box_tree.proofs.SeenLemmas.{seen-changed}

-- the items of a node that is seen so
abbrev pub AreItemsOf : Option (Kind × List Piece) → ℕ → List Item → Type 0
AreItemsOf None id items = items ≡ []
AreItemsOf (Some (kind, boxes)) id items = AreItems id kind (item_count_of kind (length boxes)) items

pub items_seen : (page : Contents) → IsValid page → (id : ℕ) → AreItemsOf (seen_of (node_of page id)) id (node_items page id)
items_seen page valid id = by_node (node_of page id) refl
  where
    by_node : (o : Option Node) → node_of page id ≡ o → AreItemsOf (seen_of o) id (node_items page id)
    by_node None is = ap items_at is
    by_node (Some n) is = items_valid page valid id n is

-- two lists of items of a node that is seen so have the same item at each place
same_items_at : (seen : Option (Kind × List Piece)) (id : ℕ) (items items' : List Item) → AreItemsOf seen id items → AreItemsOf seen id items' → (length items ≡ length items') × ((place : ℕ) (none : Item) → place < length items → get_or items place none ≡ get_or items' place none)
same_items_at None id items items' are are' = (ap (λ (l : List Item). length l) (are ∙ sym are'), λ place none lt. ap (λ (l : List Item). get_or l place none) (are ∙ sym are'))
same_items_at (Some (kind, boxes)) id items items' are are' = (
  are.count_is ∙ sym are'.count_is,
  λ place none lt. let lt' : place < item_count_of kind (length boxes) = omega (arith, lt, are.count_is) in are.at place none lt' ∙ sym (are'.at place none lt'),
)

-- each item of a valid page stands at its place
pub are_placed : (page : Contents) → IsValid page → ArePlaced (node_items page)
are_placed page valid x place none lt = by_seen (seen_of (node_of page x)) (items_seen page valid x)
  where
    by_seen : (seen : Option (Kind × List Piece)) → AreItemsOf seen x (node_items page x) → ((get_or (node_items page x) place none).node ≡ x) × (place_of (get_or (node_items page x) place none).part ≡ place)
    by_seen None are = absurd (omega (arith, lt, ap (λ (l : List Item). length l) are))
    by_seen (Some (kind, boxes)) are =
        let lt' : place < item_count_of kind (length boxes) = omega (arith, lt, are.count_is) in
        let at = are.at place none lt' in
        (ap (λ (i : Item). i.node) at, ap (λ (i : Item). place_of i.part) at ∙ are.placed place lt')

-- what holds of the numbers once they follow
pub record AreNumberedAfter (after : Contents) (old new : ItemsState) : Type 0 where
  pub follows : Follows old new
  pub numbered : IsNumbered new (node_items after)

module _ (before after : Contents) (valid : IsValid before) (valid' : IsValid after) (old new : ItemsState) (numbered : IsNumbered old (node_items before)) where
  -- nodes are seen as before, but for some that go
  module _ (follows : Follows old new) (seen : (x : ℕ) → (seen_of (node_of after x) ≡ seen_of (node_of before x)) × (numbers_of new x ≡ numbers_of old x) ⊎ (node_items after x ≡ []) × (numbers_of new x ≡ [])) where
    pub after-fewer : AreNumberedAfter after old new
    after-fewer = record {
      follows = follows;
      numbered = numbered-after old new follows (node_items before) (node_items after) numbered (are_placed after valid')
          (λ x. elim (seen x) [
            | inl same ↦ ap (λ (l : List ℕ). length l) same.1 ∙ numbered.count x ∙ (alike x same.0).0
            | inr gone ↦ ap (λ (l : List ℕ). length l) gone.1 ∙ ap (λ (l : List Item). length l) (sym gone.0)
          ])
          (λ x place none was lt. elim (seen x) [
            | inl same ↦ (alike x same.0).1 place none was
            | inr gone ↦ absurd (omega (arith, lt, ap (λ (l : List Item). length l) gone.0))
          ])
          (λ x place none le lt. elim (seen x) [
            | inl same ↦ absurd (omega (arith, le, lt, (alike x same.0).0))
            | inr gone ↦ absurd (omega (arith, lt, ap (λ (l : List Item). length l) gone.0))
          ]);
    }
      where
        alike : (x : ℕ) → seen_of (node_of after x) ≡ seen_of (node_of before x) → (length (node_items before x) ≡ length (node_items after x)) × ((place : ℕ) (none : Item) → place < length (node_items before x) → get_or (node_items before x) place none ≡ get_or (node_items after x) place none)
        alike x same = same_items_at (seen_of (node_of before x)) x (node_items before x) (node_items after x) (items_seen before valid x) (subst (λ o. AreItemsOf o x (node_items after x)) same (items_seen after valid' x))

  -- one node has other boxes, or comes
  module _ (id : ℕ) (kind : Kind) (boxes : List Piece) (placed : id < length old.lists) (at : seen_of (node_of after id) ≡ Some (kind, boxes))
      (was : (node_items before id ≡ []) ⊎ ((had : List Piece) × (seen_of (node_of before id) ≡ Some (kind, had)))) (others : (x : ℕ) → x ≢ id → seen_of (node_of after x) ≡ seen_of (node_of before x))
      (resized : IsResized id kind (item_count_of kind (length boxes)) old new) where
    abbrev many : ℕ
    many = item_count_of kind (length boxes)

    here : AreItems id kind (item_count_of kind (length boxes)) (node_items after id)
    here = subst (λ o. AreItemsOf o id (node_items after id)) at (items_seen after valid' id)

    fewer_front : many < length (numbers_of old id) → take (length (take many (numbers_of old id))) (numbers_of old id) ≡ take many (numbers_of old id)
    fewer_front lt = ap (λ (n : ℕ). take n (numbers_of old id)) (omega (arith, length-take many (numbers_of old id), lt))

    follows : Follows old new
    follows = elim resized [
      | inl grown ↦ follows-grown id kind many old new placed grown
      | inr fewer ↦ subst (Follows old) (sym fewer.1) (follows-fewer old (with_fewer id (take many (numbers_of old id)) old) refl (fronts-fewer old id (take many (numbers_of old id)) placed (fewer_front fewer.0)))
    ]

    numbers_elsewhere : (x : ℕ) → x ≢ id → numbers_of new x ≡ numbers_of old x
    numbers_elsewhere x other = elim resized [
      | inl grown ↦ ap (λ (ls : List (List ℕ)). get_or ls x []) grown.lists ∙ list_elsewhere old id (numbers_of new id) placed x other
      | inr fewer ↦ ap (λ (s : ItemsState). numbers_of s x) fewer.1 ∙ list_elsewhere old id (take many (numbers_of old id)) placed x other
    ]

    count_here : length (numbers_of new id) ≡ many
    count_here = elim resized [
      | inl grown ↦ grown.length_is
      | inr fewer ↦ ap (λ (s : ItemsState). length (numbers_of s id)) fewer.1 ∙ ap (λ (l : List ℕ). length l) (list_here old id (take many (numbers_of old id)) placed) ∙ omega (arith, length-take many (numbers_of old id), fewer.0)
    ]

    elsewhere : (x : ℕ) → x ≢ id → (length (node_items before x) ≡ length (node_items after x)) × ((place : ℕ) (none : Item) → place < length (node_items before x) → get_or (node_items before x) place none ≡ get_or (node_items after x) place none)
    elsewhere x other = same_items_at (seen_of (node_of before x)) x (node_items before x) (node_items after x) (items_seen before valid x) (subst (λ o. AreItemsOf o x (node_items after x)) (others x other) (items_seen after valid' x))

    same_here : (place : ℕ) (none : Item) → place < length (node_items before id) → place < length (node_items after id) → get_or (node_items before id) place none ≡ get_or (node_items after id) place none
    same_here place none lt lt' = elim was [
      | inl nothing ↦ absurd (omega (arith, lt, ap (λ (l : List Item). length l) nothing))
      | inr there ↦
          let are : AreItems id kind (item_count_of kind (length there.0)) (node_items before id) = subst (λ o. AreItemsOf o id (node_items before id)) there.1 (items_seen before valid id) in
          are.at place none (omega (arith, lt, are.count_is)) ∙ sym (here.at place none (omega (arith, lt', here.count_is)))
    ]

    came_here : (place : ℕ) (none : Item) → length (node_items before id) ≤ place → place < length (node_items after id) → slice_get new.given (get_or (numbers_of new id) place 0) ≡ Some (get_or (node_items after id) place none)
    came_here place none le lt =
        let few : place < many = omega (arith, lt, here.count_is) in
        let from : length (numbers_of old id) ≤ place = omega (arith, le, numbered.count id) in
        elim resized [
          | inl grown ↦ grown.items place from few ∙ ap Some (sym (here.at place none few))
          | inr fewer ↦ absurd (omega (arith, from, few, fewer.0))
        ]

    pub after-resized : AreNumberedAfter after old new
    after-resized = record {
      follows = follows;
      numbered = numbered-after old new follows (node_items before) (node_items after) numbered (are_placed after valid')
          (λ x. elim (cases_eq x id) [
            | inl same ↦ subst (λ (i : ℕ). length (numbers_of new i) ≡ length (node_items after i)) (sym same) (count_here ∙ sym here.count_is)
            | inr other ↦ ap (λ (l : List ℕ). length l) (numbers_elsewhere x other) ∙ numbered.count x ∙ (elsewhere x other).0
          ])
          (λ x place none lt lt'. elim (cases_eq x id) [
            | inl same ↦ subst (λ (i : ℕ). place < length (node_items before i) → place < length (node_items after i) → get_or (node_items before i) place none ≡ get_or (node_items after i) place none) (sym same) (same_here place none) lt lt'
            | inr other ↦ (elsewhere x other).1 place none lt
          ])
          (λ x place none le lt. elim (cases_eq x id) [
            | inl same ↦ subst (λ (i : ℕ). length (node_items before i) ≤ place → place < length (node_items after i) → slice_get new.given (get_or (numbers_of new i) place 0) ≡ Some (get_or (node_items after i) place none)) (sym same) (came_here place none) le lt
            | inr other ↦ absurd (omega (arith, le, lt, (elsewhere x other).0))
          ]);
    }

  none_gone : IsTakenFrom [] old new → ((x : ℕ) → seen_of (node_of after x) ≡ seen_of (node_of before x)) → AreNumberedAfter after old new
  none_gone taken seen = after-fewer (follows-fewer old new taken.given (fronts-taken [] old new taken)) (λ x. inl (seen x, taken.lists x))

  some_gone : (ids : List ℕ) → IsTakenFrom ids old new → ((x : ℕ) → seen_of (node_of after x) ≡ (if is_among ids x then None else seen_of (node_of before x))) → AreNumberedAfter after old new
  some_gone ids taken seen = after-fewer (follows-fewer old new taken.given (fronts-taken ids old new taken)) (λ x. by_test x (is_among ids x) (seen x) (taken.lists x))
    where
      by_test : (x : ℕ) (b : Bool) → seen_of (node_of after x) ≡ (if b then None else seen_of (node_of before x)) → numbers_of new x ≡ (if b then [] else numbers_of old x) → (seen_of (node_of after x) ≡ seen_of (node_of before x)) × (numbers_of new x ≡ numbers_of old x) ⊎ (node_items after x ≡ []) × (numbers_of new x ≡ [])
      by_test x true gone none = inr (subst (λ o. AreItemsOf o x (node_items after x)) gone (items_seen after valid' x), none)
      by_test x false same stays = inl (same, stays)

  -- a node is placed, where it is there
  some_placed : (id : ℕ) (l : Laid) (o : Option Node) → node_of before id ≡ o → ((x : ℕ) → seen_of (node_of after x) ≡ seen_of (changed_at id (with_label (changed (Layout l))) x (node_of before x)))
      → IfSome (option_map (λ n. touched_as id l n) o) (λ t. t.id < length old.lists) → IsRenumberedBy (option_map (λ n. touched_as id l n) o) [] old new → AreNumberedAfter after old new
  some_placed id l None is seen placed taken = none_gone taken (λ x. seen x ∙ stays x)
    where
      stays : (x : ℕ) → seen_of (changed_at id (with_label (changed (Layout l))) x (node_of before x)) ≡ seen_of (node_of before x)
      stays x = elim (cases_eq id x) [
        | inl same ↦ subst (λ (i : ℕ). seen_of (changed_at id (with_label (changed (Layout l))) i (node_of before i)) ≡ seen_of (node_of before i)) same (subst (λ o. seen_of (changed_at id (with_label (changed (Layout l))) id o) ≡ seen_of o) (sym is) (ap seen_of (changed-none id (with_label (changed (Layout l))) id)))
        | inr other ↦ ap seen_of (changed-other id (with_label (changed (Layout l))) x (node_of before x) other)
      ]
  some_placed id l (Some n) is seen placed resized =
      after-resized id n.kind l.boxes placed
      (seen id ∙ ap (λ o. seen_of (changed_at id (with_label (changed (Layout l))) id o)) is ∙ ap seen_of (changed-here id (with_label (changed (Layout l))) id (Some n) refl))
      (inr (n.boxes, ap seen_of is))
      (λ x other. seen x ∙ ap seen_of (changed-other id (with_label (changed (Layout l))) x (node_of before x) (λ same. other (sym same))))
      resized

-- the numbers that a plan leaves are those of the page that it leaves
pub after-plan : (plan : Plan) (edit : Edit) (state : TreeState) (after : Contents) → IsPlanned plan edit state → IsValid state.contents → IsValid after → (old new : ItemsState) → IsNumbered old (node_items state.contents) → ((x : ℕ) → seen_of (node_of after x) ≡ seen_after plan x (node_of state.contents x))
    → IfSome (touched plan (node_of state.contents)) (λ t. t.id < length old.lists) → IsRenumbered plan (node_of state.contents) old new → AreNumberedAfter after old new
after-plan (AddNode node place spare) (Add parent at kind boxes style) state after planned valid valid' old new numbered seen placed resized =
    let id_is : node.id ≡ state.contents.next = ap (λ (n : Node). n.id) planned.plan_is.node_is in
    let absent : node_of state.contents node.id ≡ None = ap (node_of state.contents) id_is ∙ node_in-absent state.contents.tree [] state.contents.next (given-absent state.contents.tree [] state.contents.next state.contents.next valid.given (inr (omega arith))) in
    let here : (node.id == node.id) ≡ true = grind (arith, nat_tests) in
    after-resized state.contents after valid valid' old new numbered node.id node.kind node.boxes placed
    (seen node.id ∙ ap (λ (b : Bool). if b then seen_of (Some node) else seen_of (node_of state.contents node.id)) here)
    (inl (ap items_at absent))
    (λ x other. let differs : (node.id == x) ≡ false = (let other' : node.id ≢ x = (λ same. other (sym same)) in grind (arith, nat_tests)) in seen x ∙ ap (λ (b : Bool). if b then seen_of (Some node) else seen_of (node_of state.contents x)) differs)
    resized
after-plan (AddNode node place spare) edit state after planned valid valid' old new numbered seen placed resized = absurd planned.plan_is
after-plan (RemoveNodes parent siblings ids gone) edit state after planned valid valid' old new numbered seen placed taken = some_gone state.contents after valid valid' old new numbered ids taken seen
after-plan (MoveNodes place siblings children ids) edit state after planned valid valid' old new numbered seen placed taken = none_gone state.contents after valid valid' old new numbered taken seen
after-plan (ChangeNode id (Layout l)) edit state after planned valid valid' old new numbered seen placed taken = some_placed state.contents after valid valid' old new numbered id l (node_of state.contents id) refl seen placed taken
after-plan (ChangeNode id (Style style)) edit state after planned valid valid' old new numbered seen placed taken = none_gone state.contents after valid valid' old new numbered taken (λ x. seen x ∙ seen-changed id (with_label (changed (Style style))) (λ n. refl) x (node_of state.contents x))
after-plan (ChangeNode id (Form form)) edit state after planned valid valid' old new numbered seen placed taken = none_gone state.contents after valid valid' old new numbered taken (λ x. seen x ∙ seen-changed id (with_label (changed (Form form))) (λ n. refl) x (node_of state.contents x))
after-plan (ChangeNode id (Scroll scroll)) edit state after planned valid valid' old new numbered seen placed taken = none_gone state.contents after valid valid' old new numbered taken (λ x. seen x ∙ seen-changed id (with_label (changed (Scroll scroll))) (λ n. refl) x (node_of state.contents x))
after-plan (ResizeViewport w h max) edit state after planned valid valid' old new numbered seen placed taken = none_gone state.contents after valid valid' old new numbered taken seen
after-plan (ScrollViewport to) edit state after planned valid valid' old new numbered seen placed taken = none_gone state.contents after valid valid' old new numbered taken seen

-- a node that can be touched has a place for its list
pub placed_touch : (items : ItemsState) (room : ℕ) (spare : Spare) (o : Option Touched) → IfSome o (CanTouch items room spare) → IfSome o (λ t. t.id < length items.lists)
placed_touch items room spare None can = tt
placed_touch items room spare (Some t) can = can.placed

-- numbers that are kept as they have to be, and are those of the items of the page
pub numbered_page : (page : Contents) (s : ItemsState) → IsNumbered s (node_items page) → AreSound s → IsNumberedPage page s
numbered_page page s numbered sound = record {
  in_order = numbered;
  each = λ item is. (get_or (numbers_of s item.node) is.0 0, subst (Names s (get_or (numbers_of s item.node) is.0 0)) is.2 (numbered.named item.node is.0 item is.1));
  only = λ number item names.
      let place = place_of item.part in
      let within : place < length (node_items page item.node) = omega (arith, names.there, numbered.count item.node) in
      let named = numbered.named item.node place item within in
      (place, within, same_Some (get_or (node_items page item.node) place item) item (sym named.given_to ∙ ap (slice_get s.given) names.number_is ∙ names.given_to));
  one_number = λ item number other names names'. sym names.number_is ∙ names'.number_is;
  one_item = λ number item other names names'. same_Some item other (sym names.given_to ∙ names'.given_to);
  below = λ number item names. omega (arith, was_given s sound item.node (place_of item.part) names.there, names.number_is, sound.most);
}
