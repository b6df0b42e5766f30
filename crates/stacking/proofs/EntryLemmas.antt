-- Each entry stands once in the lists of the stacking contexts of a page. An entry is given a weight of 1, and all others none;
-- the lists of all stacking contexts weigh together no more than the layer of the root, in which no item stands twice, and no
-- more than the ids of the page, in which no id stands twice.
use Rattle.std.proofs.Common.{◌≡◌, ◌≢◌, ℕ, ◌+◌, ◌≤◌, ◌==◌, List, [], ◌∷◌, map, Some, slice_get, Bool, true, false, refl, sym, ap, ◌∙◌, inl, inr, arith}
use Rattle.std.specs.Prelude.{if◌then◌else◌, length}
use Rattle.std.specs.List.{flat_map}
use Rattle.std.proofs.lemmas.Bool.{cases_eq}
use Rattle.std.proofs.lemmas.Bool.Decides.{nat_tests}
use Rattle.box_tree.specs.declared.item.Item.{Item}
use Rattle.box_tree.specs.declared.item.Part.{Part}
use Rattle.box_tree.specs.declared.item.Part.TheVariants.{Box, Content, Outline}
use Rattle.box_tree.specs.Forest.{Label, Forest, End, Grow, Placed, placed_in, occurrences, roots_of}
use Rattle.box_tree.specs.Contents.{Contents, placed_of, IsValid}
use Rattle.box_tree.specs.Used.{is_real_context}
use Rattle.box_tree.proofs.SubtreeLemmas.{Head, Deeper, Beside, found_in}
use Rattle.stacking.specs.Painting.{at, shares_in, head, body, flat, ContextEntry, OneItem, SubContext, listed_member, entries, painted_member, layer}
use Rattle.stacking.specs.Counting.{count, is_item, is_part, root_layer}
use Rattle.stacking.specs.Lists.{IsListedAt}
use Rattle.stacking.proofs.LevelLemmas.{flat-is}
use Rattle.stacking.proofs.CountLemmas.{count-append, count-layer}
use Rattle.stacking.proofs.MemberLemmas.{IsContextAt, context_at, of_node-context}
use Rattle.stacking.proofs.OnceLemmas as once
use Rattle.stacking.proofs.WeightLemmas.{total, total-same, total-plus, weighs, one_place, total-list, given_by, given-step}

-- the weight of the lists of all stacking contexts among trees
abbrev pub all_lists : (ContextEntry → ℕ) → List Label → Forest → ℕ
all_lists w above End = 0
all_lists w above (Grow n below others) =
    (if at is_real_context (record { label = n; above = above; below = below }) then total w (entries (record { label = n; above = above; below = below })) else 0)
    + (all_lists w (n ∷ above) below + all_lists w above others)

module _ (w : ContextEntry → ℕ) where
  head-list : (n : Label) (above : List Label) (below others : Forest) (p : Placed) → p ≡ record { label = n; above = above; below = below } → at is_real_context p ≡ true →
      all_lists w above (Grow n below others) ≡ total w (entries p) + (all_lists w (n ∷ above) below + all_lists w above others)
  head-list n above below others p is real =
      ap (λ (r : Placed). (if at is_real_context r then total w (entries r) else 0) + (all_lists w (n ∷ above) below + all_lists w above others)) (sym is)
      ∙ ap (λ b. (if b then total w (entries p) else 0) + (all_lists w (n ∷ above) below + all_lists w above others)) real

  -- the lists of one and of two of them weigh no more
  pub one-list : (f : Forest) (above : List Label) (id : ℕ) (p : Placed) → placed_in above f id ≡ Some p → at is_real_context p ≡ true → total w (entries p) ≤ all_lists w above f
  one-list End above id p found real = absurd cc
  one-list (Grow n below others) above id p found real = elim (found_in n below others above id p found) [
    | Head here is ↦ omega (arith, head-list n above below others p is real)
    | Deeper other is ↦ omega (arith, one-list below (n ∷ above) id p is real)
    | Beside other is ↦ omega (arith, one-list others above id p is real)
  ]

  two-lists : (f : Forest) (above : List Label) (c d : ℕ) (p q : Placed) → placed_in above f c ≡ Some p → placed_in above f d ≡ Some q → at is_real_context p ≡ true → at is_real_context q ≡ true → c ≢ d →
      total w (entries p) + total w (entries q) ≤ all_lists w above f
  two-lists End above c d p q found found' real real' apart = absurd cc
  two-lists (Grow n below others) above c d p q found found' real real' apart = elim (found_in n below others above c p found) [
    | Head here is ↦ elim (found_in n below others above d q found') [
      | Head here' is' ↦ absurd (apart (sym here ∙ here'))
      | Deeper other is' ↦ omega (arith, head-list n above below others p is real, one-list below (n ∷ above) d q is' real')
      | Beside other is' ↦ omega (arith, head-list n above below others p is real, one-list others above d q is' real')
    ]
    | Deeper other is ↦ elim (found_in n below others above d q found') [
      | Head here' is' ↦ omega (arith, head-list n above below others q is' real', one-list below (n ∷ above) c p is real)
      | Deeper other' is' ↦ omega (arith, two-lists below (n ∷ above) c d p q is is' real real' apart)
      | Beside other' is' ↦ omega (arith, one-list below (n ∷ above) c p is real, one-list others above d q is' real')
    ]
    | Beside other is ↦ elim (found_in n below others above d q found') [
      | Head here' is' ↦ omega (arith, head-list n above below others q is' real', one-list others above c p is real)
      | Deeper other' is' ↦ omega (arith, one-list others above c p is real, one-list below (n ∷ above) d q is' real')
      | Beside other' is' ↦ omega (arith, two-lists others above c d p q is is' real real' apart)
    ]
  ]

-- the weight of a stacking context as an entry
abbrev pub sub_weight : ℕ → ContextEntry → ℕ
sub_weight id (OneItem item) = 0
sub_weight id (SubContext other) = if other == id then 1 else 0

-- the weight of a node that is the stacking context
abbrev pub context_weight : ℕ → Placed → ℕ
context_weight id m = if at is_real_context m then (if m.label.id == id then 1 else 0) else 0

module _ (id : ℕ) where
  no_items : (items : List Item) → total (sub_weight id) (map OneItem items) ≡ 0
  no_items [] = refl
  no_items (item ∷ items) = omega (arith, no_items items)

  listed-weight : (m : Placed) → total (sub_weight id) (listed_member m) ≡ context_weight id m
  listed-weight m = by_test (at is_real_context m)
    where
      by_test : (b : Bool) → total (sub_weight id) (if b then SubContext m.label.id ∷ [] else map OneItem (flat m)) ≡ (if b then (if m.label.id == id then 1 else 0) else 0)
      by_test true = omega arith
      by_test false = no_items (flat m)

  pub plain-weight : (m : Placed) → at is_real_context m ≡ false → context_weight id m ≡ 0
  plain-weight m plain = ap (λ b. if b then (if m.label.id == id then 1 else 0) else 0) plain

  -- the stacking context stands in a list as often as among the members
  pub sub-list : (p : Placed) → total (sub_weight id) (entries p) ≡ given_by (context_weight id) plain-weight (p.label ∷ p.above) p.below
  sub-list p = omega (
    arith,
    total-list (sub_weight id) (map OneItem) listed_member p,
    no_items (head p),
    no_items (body p),
    total-same (λ m. total (sub_weight id) (listed_member m)) (context_weight id) listed-weight (flat_map (λ s. s.members) (shares_in p)),
  )

  -- and in all lists no more often than its id in the trees
  sub-lists : (above : List Label) (f : Forest) → all_lists (sub_weight id) above f + given_by (context_weight id) plain-weight above f ≤ occurrences f id
  sub-lists above End = omega arith
  sub-lists above (Grow n below others) =
      let p : Placed = record { label = n; above = above; below = below } in
      by_test (at is_real_context p) _ _ (sub-list p) (given-step (context_weight id) plain-weight n above below others) (sub-lists (n ∷ above) below) (sub-lists above others)
    where
      by_test : (b : Bool) (list given : ℕ) → list ≡ given_by (context_weight id) plain-weight (n ∷ above) below →
          given ≡ ((if b then (if n.id == id then 1 else 0) else 0) + (if b then 0 else given_by (context_weight id) plain-weight (n ∷ above) below)) + given_by (context_weight id) plain-weight above others →
          all_lists (sub_weight id) (n ∷ above) below + given_by (context_weight id) plain-weight (n ∷ above) below ≤ occurrences below id → all_lists (sub_weight id) above others + given_by (context_weight id) plain-weight above others ≤ occurrences others id →
          ((if b then list else 0) + (all_lists (sub_weight id) (n ∷ above) below + all_lists (sub_weight id) above others)) + given ≤ occurrences (Grow n below others) id
      by_test true list given list_is given_is deeper beside = omega (arith, list_is, given_is, deeper, beside)
      by_test false list given list_is given_is deeper beside = omega (arith, list_is, given_is, deeper, beside)

-- the weight of the items that pass a test
abbrev pub item_weight : (Item → Bool) → ContextEntry → ℕ
item_weight test (OneItem item) = if test item then 1 else 0
item_weight test (SubContext id) = 0

-- how many are in the layer of a node that is a stacking context
abbrev pub layer_weight : (Item → Bool) → Placed → ℕ
layer_weight test m = if at is_real_context m then count test (layer m) else 0

module _ (test : Item → Bool) where
  these_items : (items : List Item) → total (item_weight test) (map OneItem items) ≡ count test items
  these_items [] = refl
  these_items (item ∷ items) = omega (arith, these_items items)

  painted-weight : (m : Placed) → count test (painted_member layer m) ≡ total (item_weight test) (listed_member m) + layer_weight test m
  painted-weight m = by_test (at is_real_context m)
    where
      by_test : (b : Bool) → count test (if b then layer m else flat m) ≡ total (item_weight test) (if b then SubContext m.label.id ∷ [] else map OneItem (flat m)) + (if b then count test (layer m) else 0)
      by_test true = omega arith
      by_test false = omega (arith, these_items (flat m))

  unlayered : (m : Placed) → at is_real_context m ≡ false → layer_weight test m ≡ 0
  unlayered m plain = ap (λ b. if b then count test (layer m) else 0) plain

  -- in a layer stand the items of the list, and those of the layers of the members
  item-list : (p : Placed) → count test (layer p) ≡ total (item_weight test) (entries p) + given_by (layer_weight test) unlayered (p.label ∷ p.above) p.below
  item-list p = omega (
    arith,
    count-layer test p,
    ap (count test) (flat-is p),
    count-append test (head p) (body p),
    total-plus (λ m. count test (painted_member layer m)) (λ m. total (item_weight test) (listed_member m)) (layer_weight test) painted-weight (flat_map (λ s. s.members) (shares_in p)),
    total-list (item_weight test) (map OneItem) listed_member p,
    these_items (head p),
    these_items (body p),
  )

  -- the items of all lists among trees are those of the layers of the members that the trees give
  item-lists : (above : List Label) (f : Forest) → all_lists (item_weight test) above f ≡ given_by (layer_weight test) unlayered above f
  item-lists above End = refl
  item-lists above (Grow n below others) =
      let p : Placed = record { label = n; above = above; below = below } in
      by_test (at is_real_context p) _ _ _ (item-list p) (given-step (layer_weight test) unlayered n above below others) (item-lists (n ∷ above) below) (item-lists above others)
    where
      by_test : (b : Bool) (list given all : ℕ) → all ≡ list + given_by (layer_weight test) unlayered (n ∷ above) below →
          given ≡ ((if b then all else 0) + (if b then 0 else given_by (layer_weight test) unlayered (n ∷ above) below)) + given_by (layer_weight test) unlayered above others →
          all_lists (item_weight test) (n ∷ above) below ≡ given_by (layer_weight test) unlayered (n ∷ above) below → all_lists (item_weight test) above others ≡ given_by (layer_weight test) unlayered above others →
          (if b then list else 0) + (all_lists (item_weight test) (n ∷ above) below + all_lists (item_weight test) above others) ≡ given
      by_test true list given all all_is given_is deeper beside = omega (arith, all_is, given_is, deeper, beside)
      by_test false list given all all_is given_is deeper beside = omega (arith, all_is, given_is, deeper, beside)

  -- and those of all lists of a page are those of the layer of its root
  pub root-lists : (f : Forest) → length (roots_of f) ≤ 1 → all_lists (item_weight test) [] f ≡ count test (root_layer f)
  root-lists End one = refl
  root-lists (Grow n below End) one = omega (arith, item-list (record { label = n; above = []; below = below }), item-lists (n ∷ []) below)
  root-lists (Grow n below (Grow m deeper others)) one = absurd (omega arith)

-- the weight of an entry: it weighs 1 itself, and any other nothing
abbrev pub weight : ContextEntry → ContextEntry → ℕ
weight (OneItem item) = item_weight (is_item item)
weight (SubContext id) = sub_weight id

itself : (n : ℕ) → (n == n) ≡ true
itself n = grind (arith, nat_tests)

pub part_itself : (part : Part) → is_part part part ≡ true
part_itself (Box place) = itself place
part_itself Content = refl
part_itself Outline = refl

pub weight-itself : (entry : ContextEntry) → weight entry entry ≡ 1
weight-itself (OneItem item) = rw (itself item.node, part_itself item.part) refl
weight-itself (SubContext id) = rw (itself id) refl

weight-page : (page : Contents) → IsValid page → (entry : ContextEntry) → all_lists (weight entry) [] page.tree ≤ 1
weight-page page valid (OneItem item) = omega (arith, root-lists (is_item item) page.tree valid.one_tree, once.each_item_is_painted_once page valid item)
weight-page page valid (SubContext id) = omega (arith, sub-lists id [] page.tree, valid.distinct id)

-- the place of a stacking context in whose list an entry stands
module _ (page : Contents) (entry : ContextEntry) (context k : ℕ) (is : IsListedAt page entry context k) where
  abbrev pub list_at : IsContextAt page context
  list_at = context_at page context is.is_context

  pub at_place : slice_get (entries list_at.place) k ≡ Some entry
  at_place = ap (λ es. slice_get es k) (sym (of_node-context page context list_at entries)) ∙ is.stands

module _ (page : Contents) (valid : IsValid page) (entry : ContextEntry) (c d j k : ℕ) (here : IsListedAt page entry c j) (there : IsListedAt page entry d k) where
  pub same_context : c ≡ d
  same_context =
      let p = list_at page entry c j here in
      let q = list_at page entry d k there in
      elim (cases_eq c d) [
        | inl same ↦ same
        | inr apart ↦ absurd (omega (
          arith,
          two-lists (weight entry) page.tree [] c d p.place q.place p.found q.found p.real q.real apart,
          weight-page page valid entry,
          weighs (weight entry) (entries p.place) j entry (at_place page entry c j here),
          weighs (weight entry) (entries q.place) k entry (at_place page entry d k there),
          weight-itself entry,
        ))
      ]

  pub same_place : j ≡ k
  same_place =
      let p = list_at page entry c j here in
      let q = list_at page entry d k there in
      let same : Some q.place ≡ Some p.place = sym q.found ∙ ap (placed_of page) (sym same_context) ∙ p.found in
      let place_is : q.place ≡ p.place = cc in
      one_place (weight entry) (entries p.place) j k entry (omega (arith, one-list (weight entry) page.tree [] c p.place p.found p.real, weight-page page valid entry)) (weight-itself entry) (at_place page entry c j here)
      (ap (λ (r : Placed). slice_get (entries r) k) (sym place_is) ∙ at_place page entry d k there)
