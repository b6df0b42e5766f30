-- Which nodes keep their items, and which numbers no item has after an edit.
use Rattle.std.proofs.Common.{◌≡◌, ◌≢◌, ℕ, ◌+◌, ◌-◌, ◌<◌, ◌≤◌, ◌==◌, List, [], ◌∷◌, length, get_or, drop, map, Option, Some, None, is_some, ◌⊎◌, inl, inr, Bool, true, false, if◌then◌else◌, refl, sym, ap, subst, ◌∙◌, arith}
use Rattle.std.specs.Prelude.{Contains, nat_lt}
use Rattle.std.specs.Option.{option_map, option_map_or, option_or}
use Rattle.std.proofs.lemmas.Bool.{cases_eq, cases_lt, false≢true}
use Rattle.std.proofs.lemmas.Bool.Decides.{nat_tests}
use Rattle.std.proofs.lemmas.List.{length-drop, get_or-drop}
use Rattle.fractions.specs.declared.rect.Spot.{Spot}
use Rattle.box_tree.specs.declared.edit.Edit.{Edit}
use Rattle.box_tree.specs.declared.edit.Edit.TheVariants.{Add, Remove, Move, Place, Restyle, Reshape, Scroll, Resize, ScrollView}
use Rattle.box_tree.specs.declared.item.Item.{Item}
use Rattle.box_tree.specs.declared.piece.Piece.{Piece}
use Rattle.box_tree.specs.Contents.{Contents, placed_of, node_at, tree_of, has_id, IsValid, IsSuited}
use Rattle.box_tree.specs.Edited.{taken_out, put_below, relabelled, laid_out, restyled, reshaped, scrolled_node, edited}
use Rattle.box_tree.specs.Forest.{Label, Forest, End, Grow, ids_in, occurrences, Placed, placed_in}
use Rattle.box_tree.specs.Frame.{IsFaultless}
use Rattle.box_tree.specs.Items.{items_of, items_at, node_items}
use Rattle.box_tree.specs.Numbers.{ItemsState, numbers_of, place_of, Names, IsNumber, IsItem, KeepsNumbers, GivesFreshNumbers, IsNumberedPage}
use Rattle.box_tree.specs.Renumbered.{item_at}
use Rattle.box_tree.specs.Touched.{item_count_of}
use Rattle.box_tree.specs.Planned.{is_among, times_in}
use Rattle.box_tree.proofs.AddLemmas.{once_there}
use Rattle.box_tree.proofs.CountLemmas.{times_in-ids_in, among-times}
use Rattle.box_tree.proofs.ForestLemmas.{ancestors_in, placed_in-absent}
use Rattle.box_tree.proofs.ItemLemmas.{AreItems, items_placed}
use Rattle.box_tree.proofs.MoveLemmas.{each-placed, may_move}
use Rattle.box_tree.proofs.NumberLemmas.{times-split, times-at}
use Rattle.box_tree.proofs.PlaceLemmas.{placed_in-relabelled}
use Rattle.box_tree.proofs.PlacedLemmas.{id-placed_in}
use Rattle.box_tree.proofs.PutLemmas.{given-absent}
use Rattle.box_tree.proofs.RestLemmas.{outside-after}
use Rattle.box_tree.proofs.TakenLemmas.{occurrences-parted}
use Rattle.stacking.proofs.RestLemmas.{gone, place-put_below, placed_in-deeper}
use Rattle.spaces.specs.Table.{renewed_node}
use Rattle.tree_edits.specs.Changes.{numbers_in, numbers_before, gone_numbers, AreGone}
use Rattle.tree_edits.proofs.CellLemmas.{no_item, item-read, node-named, part-named}
use Rattle.tree_edits.proofs.ChangesLemmas.{stands_at, once-numbers, once-numbers_in, is_number-of, is_number-in, node-in, number-in, there-item}
use Rattle.tree_edits.proofs.FrameLemmas.{items-outside}

-- ---- the items of a node, by its label

abbrev label_with : Option Placed → Option Label
label_with o = option_map (λ p. p.label) o

abbrev items_with : Option Label → List Item
items_with o = option_map_or items_of o []

items-labelled : (page : Contents) (x : ℕ) → node_items page x ≡ items_with (label_with (placed_of page x))
items-labelled page x = by_place (placed_of page x)
  where
    by_place : (o : Option Placed) → items_at (option_map node_at o) ≡ items_with (label_with o)
    by_place None = refl
    by_place (Some p) = refl

-- the items of a label are those that its kind says
abbrev AreItemsOf : Label → Type 0
AreItemsOf n = AreItems n.id n.kind (item_count_of n.kind (length n.boxes)) (items_of n)

-- a node has one label below whatever ancestors
label-above : (f : Forest) (above above' : List Label) (x : ℕ) → label_with (placed_in above f x) ≡ label_with (placed_in above' f x)
label-above End above above' x = refl
label-above (Grow n below others) above above' x =
    by_parts (n.id == x) (placed_in (n ∷ above) below x) (placed_in above others x) (placed_in (n ∷ above') below x) (placed_in above' others x)
    (label-above below (n ∷ above) (n ∷ above') x) (label-above others above above' x)
  where
    by_parts : (here : Bool) (o u o' u' : Option Placed) → label_with o ≡ label_with o' → label_with u ≡ label_with u' →
        label_with (if here then Some (record { label = n; above = above; below = below }) else option_or o u) ≡ label_with (if here then Some (record { label = n; above = above'; below = below }) else option_or o' u')
    by_parts true o u o' u' deeper beside = refl
    by_parts false None u None u' deeper beside = beside
    by_parts false None u (Some q) u' deeper beside = absurd cc
    by_parts false (Some p) u None u' deeper beside = absurd cc
    by_parts false (Some p) u (Some q) u' deeper beside = deeper

-- a label that a change of one node gives
module _ (page : Contents) (id : ℕ) (change : Label → Label) (keeps : (n : Label) → (change n).id ≡ n.id) (x : ℕ) where
  abbrev changed_label : Label → Label
  changed_label n = if n.id == id then change n else n

  label-changed : label_with (placed_in [] (relabelled id change page.tree) x) ≡ option_map changed_label (label_with (placed_of page x))
  label-changed = ap label_with (placed_in-relabelled id change keeps page.tree [] x) ∙ by_place (placed_of page x)
    where
      by_place : (o : Option Placed) → label_with (option_map (λ p. record { label = changed_label p.label; above = map changed_label p.above; below = relabelled id change p.below }) o) ≡ option_map changed_label (label_with o)
      by_place None = refl
      by_place (Some p) = refl

  -- its node keeps its items where the change keeps them, and every other node does
  items-changed : ((n : Label) → items_of (change n) ≡ items_of n) ⊎ (x ≢ id) → node_items (record page { tree = relabelled id change page.tree }) x ≡ node_items page x
  items-changed why =
      items-labelled (record page { tree = relabelled id change page.tree }) x ∙ ap items_with label-changed ∙ by_place (placed_of page x) refl ∙ sym (items-labelled page x)
    where
      by_place : (o : Option Placed) → placed_of page x ≡ o → items_with (option_map changed_label (label_with o)) ≡ items_with (label_with o)
      by_place None found = refl
      by_place (Some p) found = elim why [
        | inl same ↦ by_test (p.label.id == id) (same p.label)
        | inr other ↦
            let id_is = id-placed_in page.tree [] x p found in
            let apart : (p.label.id == id) ≡ false = grind (arith, nat_tests) in
            ap (λ (b : Bool). items_of (if b then change p.label else p.label)) apart
      ]
        where
          by_test : (b : Bool) → items_of (change p.label) ≡ items_of p.label → items_of (if b then change p.label else p.label) ≡ items_of p.label
          by_test true same = same
          by_test false same = refl

-- ---- the edits

-- an edit doesn't take items from a node
abbrev pub IsUntouched : Contents → Edit → ℕ → Type 0
IsUntouched page (Add parent at kind boxes style) x = Unit {0}
IsUntouched page (Remove id) x = is_among (ids_in (tree_of page id)) x ≡ false
IsUntouched page (Move id parent at) x = Unit {0}
IsUntouched page (Place id anchor boxes max) x = x ≢ id
IsUntouched page (Restyle id style) x = Unit {0}
IsUntouched page (Reshape id form) x = Unit {0}
IsUntouched page (Scroll id to_x to_y) x = Unit {0}
IsUntouched page (Resize w h max) x = Unit {0}
IsUntouched page (ScrollView to_x to_y) x = Unit {0}

module _ (page : Contents) (x : ℕ) (there : has_id page x ≡ true) where
  -- a node in a tree that moves
  items-moved : (id parent at : ℕ) → IsFaultless page (Move id parent at) → IsValid (edited page (Move id parent at)) → 0 < occurrences (tree_of page id) x → node_items (edited page (Move id parent at)) x ≡ node_items page x
  items-moved id parent at faultless valid' some =
      items-labelled after x ∙ ap items_with (by_place (placed_of page id) refl) ∙ sym (items-labelled page x)
    where
      after : Contents
      after = edited page (Move id parent at)

      rest : Forest
      rest = taken_out id page.tree

      by_place : (o : Option Placed) → placed_of page id ≡ o → label_with (placed_of after x) ≡ label_with (placed_of page x)
      by_place None found =
          let none = ap (λ (o : Option Placed). occurrences (option_map_or (λ q. Grow q.label q.below End) o End) x) found in
          absurd (omega (arith, some, none))
      by_place (Some p) found =
          let id_is = id-placed_in page.tree [] id p found in
          let tree_is : after.tree ≡ put_below parent at p.label p.below rest = ap (λ (o : Option Placed). option_map_or (λ q. put_below parent at q.label q.below rest) o page.tree) found in
          let own : tree_of page id ≡ Grow p.label p.below End = ap (λ (o : Option Placed). option_map_or (λ q. Grow q.label q.below End) o End) found in
          let may = may_move page id parent at faultless.none in
          let parted = occurrences-parted page.tree [] id parent (faultless.valid.distinct id) in
          let absent : occurrences rest p.label.id ≡ 0 = ap (occurrences rest) id_is ∙ gone page.tree id in
          let once : occurrences rest parent ≡ 1 = omega (arith, parted, once_there page parent faultless.valid may.parent_there, may.apart) in
          let q : Placed = record { label = p.label; above = ancestors_in [] rest parent; below = p.below } in
          let found' : placed_of after p.label.id ≡ Some q = ap (λ (f : Forest). placed_in [] f p.label.id) tree_is ∙ place-put_below rest [] parent at p.label p.below absent once in
          elim (cases_eq p.label.id x) [
            | inl here ↦
                ap (λ (k : ℕ). label_with (placed_of after k)) (sym here) ∙ ap label_with found'
                ∙ sym (ap label_with (ap (placed_of page) (sym here ∙ id_is) ∙ found))
            | inr other ↦
                let apart : (p.label.id == x) ≡ false = grind (arith, nat_tests) in
                let count = ap (λ (f : Forest). occurrences f x) own in
                let below : 0 < occurrences p.below x = grind (arith, nat_tests, count, some, apart) in
                ap label_with (placed_in-deeper after.tree [] p.label.id q x found' (valid'.distinct x) below)
                ∙ label-above p.below (p.label ∷ q.above) (p.label ∷ p.above) x
                ∙ sym (ap label_with (placed_in-deeper page.tree [] id p x found (faultless.valid.distinct x) below))
          ]

  -- each edit
  pub same-items : (edit : Edit) → IsFaultless page edit → IsValid (edited page edit) → IsUntouched page edit x → node_items (edited page edit) x ≡ node_items page x
  same-items (Add parent at kind boxes style) faultless valid' left =
      let absent : occurrences page.tree page.next ≡ 0 = given-absent page.tree [] page.next page.next faultless.valid.given (inr (omega arith)) in
      let none = placed_in-absent page.tree [] page.next absent in
      let apart : is_among (ids_in (tree_of page page.next)) x ≡ false = ap (λ (o : Option Placed). is_among (ids_in (option_map_or (λ p. Grow p.label p.below End) o End)) x) none in
      items-outside page (Add parent at kind boxes style) faultless x (outside-after page (Add parent at kind boxes style) x faultless (record { there = there; apart = apart }))
  same-items (Remove id) faultless valid' left = items-outside page (Remove id) faultless x (outside-after page (Remove id) x faultless (record { there = there; apart = left }))
  same-items (Move id parent at) faultless valid' left = elim (cases_lt 0 (occurrences (tree_of page id) x)) [
    | inl some ↦ items-moved id parent at faultless valid' some
    | inr none ↦
        let none' : times_in x (ids_in (tree_of page id)) ≡ 0 = omega (arith, none, times_in-ids_in (tree_of page id) x) in
        let apart : is_among (ids_in (tree_of page id)) x ≡ false = among-times (ids_in (tree_of page id)) x ∙ ap (nat_lt 0) none' in
        items-outside page (Move id parent at) faultless x (outside-after page (Move id parent at) x faultless (record { there = there; apart = apart }))
  ]
  same-items (Place id anchor boxes max) faultless valid' other = items-changed page id (laid_out anchor boxes max) (λ n. refl) x (inr other)
  same-items (Restyle id style) faultless valid' left = items-changed page id (restyled style) (λ n. refl) x (inl (λ n. refl))
  same-items (Reshape id form) faultless valid' left = items-changed page id (reshaped form) (λ n. refl) x (inl (λ n. refl))
  same-items (Scroll id to_x to_y) faultless valid' left = items-changed page id (scrolled_node to_x to_y) (λ n. refl) x (inl (λ n. refl))
  same-items (Resize w h max) faultless valid' left = refl
  same-items (ScrollView to_x to_y) faultless valid' left = refl

-- ---- the numbers that no item has

times-dropped : (k n : ℕ) (xs : List ℕ) → 0 < times_in k (drop n xs) → 0 < times_in k xs
times-dropped k n xs some = omega (arith, some, times-split k n xs)

-- behind the front of a list stands what stands at a later place
times-behind : (k n place : ℕ) (xs : List ℕ) → n ≤ place → place < length xs → get_or xs place 0 ≡ k → 0 < times_in k (drop n xs)
times-behind k n place xs le within at =
    let i : ℕ = place - n in
    let back : n + i ≡ place = omega (arith, le) in
    let inside : i < length (drop n xs) = omega (arith, length-drop n xs, le, within) in
    let read : get_or (drop n xs) i 0 ≡ k = get_or-drop n xs i 0 ∙ ap (λ (j : ℕ). get_or xs j 0) back ∙ at in
    subst (λ (m : ℕ). 0 < times_in m (drop n xs)) read (times-at (drop n xs) i inside)

-- a node of a tree that goes isn't in the page that is left
absent-removed : (page : Contents) (id x : ℕ) → IsValid page → 0 < times_in x (ids_in (tree_of page id)) → occurrences (taken_out id page.tree) x ≡ 0
absent-removed page id x valid some =
    omega (arith, some, times_in-ids_in (tree_of page id) x, occurrences-parted page.tree [] id x (valid.distinct id), valid.distinct x)

module _ (page : Contents) (old new : ItemsState) (was : IsNumberedPage page old) where
  -- each number of the nodes that an edit can take items from is that of an item, once
  once-before : (edit : Edit) → IsFaultless page edit → (k : ℕ) → times_in k (numbers_before page old edit) ≤ 1
  once-before (Add parent at kind boxes style) faultless k = omega arith
  once-before (Remove id) faultless k =
      once-numbers_in page old faultless.valid was (ids_in (tree_of page id)) k
      (λ x. omega (arith, times_in-ids_in (tree_of page id) x, occurrences-parted page.tree [] id x (faultless.valid.distinct id), faultless.valid.distinct x))
  once-before (Move id parent at) faultless k = omega arith
  once-before (Place id anchor boxes max) faultless k = once-numbers page old faultless.valid was id k
  once-before (Restyle id style) faultless k = omega arith
  once-before (Reshape id form) faultless k = omega arith
  once-before (Scroll id to_x to_y) faultless k = omega arith
  once-before (Resize w h max) faultless k = omega arith
  once-before (ScrollView to_x to_y) faultless k = omega arith

  were-before : (edit : Edit) → IsFaultless page edit → (k : ℕ) → 0 < times_in k (numbers_before page old edit) → IsNumber old k
  were-before (Add parent at kind boxes style) faultless k some = absurd (omega (arith, some))
  were-before (Remove id) faultless k some = is_number-in page old faultless.valid was (ids_in (tree_of page id)) k some
  were-before (Move id parent at) faultless k some = absurd (omega (arith, some))
  were-before (Place id anchor boxes max) faultless k some = is_number-of page old faultless.valid was id k some
  were-before (Restyle id style) faultless k some = absurd (omega (arith, some))
  were-before (Reshape id form) faultless k some = absurd (omega (arith, some))
  were-before (Scroll id to_x to_y) faultless k some = absurd (omega (arith, some))
  were-before (Resize w h max) faultless k some = absurd (omega (arith, some))
  were-before (ScrollView to_x to_y) faultless k some = absurd (omega (arith, some))

  -- none of those that are gone is that of the same item after the edit
  none-after : (edit : Edit) → IsFaultless page edit → IsNumberedPage (edited page edit) new → (k : ℕ) (item : Item) → Names old k item → Names new k item → 0 < times_in k (gone_numbers page old new edit) → ⊥
  none-after (Add parent at kind boxes style) faultless now k item first last some = omega (arith, times-dropped k _ [] some)
  none-after (Remove id) faultless now k item first last some =
      let among = node-in page old faultless.valid was (ids_in (tree_of page id)) k item first (times-dropped k (length (numbers_of new id)) (numbers_in old (ids_in (tree_of page id))) some) in
      let none = placed_in-absent (taken_out id page.tree) [] item.node (absent-removed page id item.node faultless.valid among) in
      false≢true (ap is_some (sym none) ∙ there-item (edited page (Remove id)) item (now.only k item last))
  none-after (Move id parent at) faultless now k item first last some = omega (arith, times-dropped k _ [] some)
  none-after (Place id anchor boxes max) faultless now k item first last some =
      let xs = numbers_of old id in
      let m = length (numbers_of new id) in
      let at = stands_at (drop m xs) k some in
      let within : m + at.place < length xs = omega (arith, at.within, length-drop m xs) in
      let read : get_or xs (m + at.place) 0 ≡ k = sym (get_or-drop m xs at.place 0) ∙ at.at in
      let named = subst (λ (n : ℕ). Names old n item) (sym read) first in
      let part = part-named page old faultless.valid was id (m + at.place) within item named in
      let node = node-named page old faultless.valid was id (m + at.place) within item named in
      let place = subst (λ (x : ℕ). place_of item.part < length (numbers_of new x)) node last.there in
      omega (arith, part, place)
  none-after (Restyle id style) faultless now k item first last some = omega (arith, times-dropped k _ [] some)
  none-after (Reshape id form) faultless now k item first last some = omega (arith, times-dropped k _ [] some)
  none-after (Scroll id to_x to_y) faultless now k item first last some = omega (arith, times-dropped k _ [] some)
  none-after (Resize w h max) faultless now k item first last some = omega (arith, times-dropped k _ [] some)
  none-after (ScrollView to_x to_y) faultless now k item first last some = omega (arith, times-dropped k _ [] some)

  -- ---- and there are no others

  module _ (k : ℕ) (item : Item) (named : Names old k item) where
    node-there : has_id page item.node ≡ true
    node-there = there-item page item (was.only k item named)

    -- an item of a node from which nothing is taken
    kept-item : (edit : Edit) → IsFaultless page edit → IsValid (edited page edit) → IsUntouched page edit item.node → IsItem (edited page edit) item
    kept-item edit faultless valid' left =
        subst (λ (xs : List Item). Contains xs item) (sym (same-items page item.node node-there edit faultless valid' left)) (was.only k item named)

    -- an item of a node that is placed, where the node still has that many
    placed-item : (id : ℕ) (anchor : Spot) (boxes : List Piece) (max : Spot) → IsFaultless page (Place id anchor boxes max) → IsValid (edited page (Place id anchor boxes max)) → item.node ≡ id →
        place_of item.part < length (node_items (edited page (Place id anchor boxes max)) id) → IsItem (edited page (Place id anchor boxes max)) item
    placed-item id anchor boxes max faultless valid' here within = by_place (placed_of page id) refl
      where
        after : Contents
        after = edited page (Place id anchor boxes max)

        change : Label → Label
        change = laid_out anchor boxes max

        place : ℕ
        place = place_of item.part

        by_place : (o : Option Placed) → placed_of page id ≡ o → IsItem after item
        by_place None found = absurd (false≢true (sym (ap is_some (ap (placed_of page) here ∙ found)) ∙ node-there))
        by_place (Some p) found =
            let id_is = id-placed_in page.tree [] id p found in
            let test : (p.label.id == id) ≡ true = grind (arith, nat_tests) in
            let label_is : changed_label page id change (λ n. refl) id p.label ≡ change p.label = ap (λ (b : Bool). if b then change p.label else p.label) test in
            let found' = placed_in-relabelled id change (λ n. refl) page.tree [] id ∙ ap (option_map (λ q. record { label = changed_label page id change (λ n. refl) id q.label; above = map (changed_label page id change (λ n. refl) id) q.above; below = relabelled id change q.below })) found in
            let suited = (each-placed IsSuited page.tree [] id p faultless.valid.suited found).0 in
            let suited' = (each-placed IsSuited after.tree [] id _ valid'.suited found').0 in
            let first : AreItemsOf p.label = items_placed p.above p.label suited in
            let last : AreItemsOf (change p.label) = subst AreItemsOf label_is (items_placed _ (changed_label page id change (λ n. refl) id p.label) suited') in
            let items_are : node_items page id ≡ items_of p.label = items-labelled page id ∙ ap items_with (ap label_with found) in
            let items_are' : node_items after id ≡ items_of (change p.label) = items-labelled after id ∙ ap items_with (ap label_with found' ∙ ap Some label_is) in
            let few = subst (λ (x : ℕ). place < length (numbers_of old x)) here named.there in
            let number_is = subst (λ (x : ℕ). get_or (numbers_of old x) place 0 ≡ k) here named.number_is in
            let read = item-read page old faultless.valid was id place few item (subst (λ (n : ℕ). Names old n item) (sym number_is) named) in
            let lengths = ap (λ (xs : List Item). length xs) items_are in
            let lengths' = ap (λ (xs : List Item). length xs) items_are' in
            let same : item ≡ item_at p.label.id p.label.kind place = read ∙ ap (λ (xs : List Item). get_or xs place no_item) items_are ∙ first.at place no_item (omega (arith, few, was.in_order.count id, lengths, first.count_is)) in
            let same' : get_or (node_items after id) place item ≡ item_at p.label.id p.label.kind place = ap (λ (xs : List Item). get_or xs place item) items_are' ∙ last.at place item (omega (arith, within, lengths', last.count_is)) in
            subst (λ (x : ℕ). Contains (node_items after x) item) (sym here) (place, within, same' ∙ sym same)

  -- each number that an item had is gone, where it is that of none
  all-gone : (edit : Edit) → IsFaultless page edit → IsValid (edited page edit) → IsNumberedPage (edited page edit) new → KeepsNumbers old new (edited page edit) → (k : ℕ) (item : Item) → Names old k item → (IsNumber new k → ⊥) → 0 < times_in k (gone_numbers page old new edit)
  all-gone (Add parent at kind boxes style) faultless valid' now keeps k item named never = absurd (never (item, keeps k item named (kept-item k item named (Add parent at kind boxes style) faultless valid' tt)))
  all-gone (Remove id) faultless valid' now keeps k item named never =
      let ids = ids_in (tree_of page id) in
      elim (cases_lt 0 (times_in item.node ids)) [
        | inl among ↦
            let none = placed_in-absent (taken_out id page.tree) [] id (gone page.tree id) in
            let empty : length (numbers_of new id) ≡ 0 = now.in_order.count id ∙ ap (λ (o : Option Placed). length (items_at (option_map node_at o))) none in
            subst (λ (m : ℕ). 0 < times_in k (drop m (numbers_in old ids))) (sym empty) (number-in old ids k item named among)
        | inr none ↦
            let none' : times_in item.node ids ≡ 0 = omega (arith, none) in
            let left : is_among ids item.node ≡ false = among-times ids item.node ∙ ap (nat_lt 0) none' in
            absurd (never (item, keeps k item named (kept-item k item named (Remove id) faultless valid' left)))
      ]
  all-gone (Move id parent at) faultless valid' now keeps k item named never = absurd (never (item, keeps k item named (kept-item k item named (Move id parent at) faultless valid' tt)))
  all-gone (Place id anchor boxes max) faultless valid' now keeps k item named never =
      elim (cases_eq item.node id) [
        | inr other ↦ absurd (never (item, keeps k item named (kept-item k item named (Place id anchor boxes max) faultless valid' other)))
        | inl here ↦ elim (cases_lt (place_of item.part) (length (numbers_of new id))) [
          | inl lt ↦
              let within : place_of item.part < length (node_items (edited page (Place id anchor boxes max)) id) = omega (arith, lt, now.in_order.count id) in
              absurd (never (item, keeps k item named (placed-item k item named id anchor boxes max faultless valid' here within)))
          | inr le ↦
              times-behind k (length (numbers_of new id)) (place_of item.part) (numbers_of old id) le (subst (λ (x : ℕ). place_of item.part < length (numbers_of old x)) here named.there)
              (subst (λ (x : ℕ). get_or (numbers_of old x) (place_of item.part) 0 ≡ k) here named.number_is)
        ]
      ]
  all-gone (Restyle id style) faultless valid' now keeps k item named never = absurd (never (item, keeps k item named (kept-item k item named (Restyle id style) faultless valid' tt)))
  all-gone (Reshape id form) faultless valid' now keeps k item named never = absurd (never (item, keeps k item named (kept-item k item named (Reshape id form) faultless valid' tt)))
  all-gone (Scroll id to_x to_y) faultless valid' now keeps k item named never = absurd (never (item, keeps k item named (kept-item k item named (Scroll id to_x to_y) faultless valid' tt)))
  all-gone (Resize w h max) faultless valid' now keeps k item named never = absurd (never (item, keeps k item named (kept-item k item named (Resize w h max) faultless valid' tt)))
  all-gone (ScrollView to_x to_y) faultless valid' now keeps k item named never = absurd (never (item, keeps k item named (kept-item k item named (ScrollView to_x to_y) faultless valid' tt)))

  pub are_gone : (edit : Edit) → IsFaultless page edit → IsValid (edited page edit) → IsNumberedPage (edited page edit) new → KeepsNumbers old new (edited page edit) → GivesFreshNumbers old new → AreGone old new (gone_numbers page old new edit)
  are_gone edit faultless valid' now keeps fresh = record {
    once = λ k. omega (arith, once-before edit faultless k, times-split k (length (numbers_of new (renewed_node page edit))) (numbers_before page old edit));
    were = were;
    none_is = λ k some number. elim (fresh k number.0 number.1) [
      | inl named ↦ none-after edit faultless now k number.0 named number.1 some
      | inr never ↦ never (were k some)
    ];
    all = λ k number never. all-gone edit faultless valid' now keeps k number.0 number.1 never;
  }
    where
      were : (k : ℕ) → 0 < times_in k (gone_numbers page old new edit) → IsNumber old k
      were k some = were-before edit faultless k (times-dropped k (length (numbers_of new (renewed_node page edit))) (numbers_before page old edit) some)
