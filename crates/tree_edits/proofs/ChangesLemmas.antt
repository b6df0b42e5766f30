-- The changes that an edit makes: they are of distinct items, and give the bounds of the items of the page that it leaves.
use Rattle.std.proofs.Common.{◌≡◌, ◌≢◌, ℕ, zero, suc, ◌+◌, ◌<◌, ◌≤◌, ◌==◌, List, [], ◌∷◌, ◌++◌, length, get_or, map, Option, Some, None, IsSomeAnd, is_some, inl, inr, Bool, true, false, if◌then◌else◌, refl, sym, ap, subst, ◌∙◌, arith}
use Rattle.std.specs.Prelude.{All, Contains, nat_lt, slice_get, unwrap_or}
use Rattle.std.specs.List.{flat_map}
use Rattle.std.specs.Option.{option_map, option_map_or}
use Rattle.std.proofs.lemmas.Bool.{cases_eq, cases_lt, false≢true}
use Rattle.std.proofs.lemmas.Bool.Decides.{nat_tests}
use Rattle.std.proofs.lemmas.Grind.{get_or_default_zero}
use Rattle.std.proofs.lemmas.Int.{ints}
use Rattle.std.proofs.lemmas.List.Elements.{All-append, All-map}
use Rattle.std.proofs.lemmas.List.{append-nil}
use Rattle.std.proofs.lemmas.List.Kept.{AllPairs-cons}
use Rattle.fractions.specs.declared.rect.Rect.{Rect}
use Rattle.affine.specs.Hull.{no_rect}
use Rattle.box_tree.specs.declared.item.Item.{Item}
use Rattle.box_tree.specs.declared.edit.Edit.{Edit}
use Rattle.box_tree.specs.Contents.{Contents, placed_of, node_at, tree_of, has_id, IsValid}
use Rattle.box_tree.specs.Edited.{edited}
use Rattle.box_tree.specs.Forest.{Placed, ids_in}
use Rattle.box_tree.specs.Frame.{edited_node, IsFaultless, StandsApart, IsOutside}
use Rattle.box_tree.specs.Items.{items_at}
use Rattle.box_tree.specs.Numbers.{ItemsState, numbers_of, place_of, Names, IsNumber, IsItem, KeepsNumbers, IsNumberedPage}
use Rattle.box_tree.specs.Planned.{times_in}
use Rattle.box_tree.proofs.CountLemmas.{times_in-append, times_in-ids_in, among-times}
use Rattle.box_tree.proofs.ForestLemmas.{placed_in-absent}
use Rattle.box_tree.proofs.NumberLemmas.{times-at}
use Rattle.box_tree.proofs.RestLemmas.{outside-before}
use Rattle.box_tree.proofs.TakenLemmas.{occurrences-parted}
use Rattle.spaces.specs.Table.{subtree_of, renewed_node}
use Rattle.spatial_index.specs.Cells.{IsEmptyOrInside}
use Rattle.spatial_index.specs.declared.change.Change.{Change}
use Rattle.spatial_index.specs.Contents.{AreOfDistinctItems, AreOfOthers}
use Rattle.tree_edits.specs.Bounds.{view_bounds}
use Rattle.tree_edits.specs.Cells.{region_of, rect_under, AreBoundsOf}
use Rattle.tree_edits.specs.Changes.{numbers_in, bounds_given, moved, taken, changes_of, placed_by, AreGone}
use Rattle.tree_edits.proofs.BoundsLemmas.{inside-view_bounds}
use Rattle.tree_edits.proofs.FrameLemmas.{items-outside, bounds-outside}
use Rattle.tree_edits.proofs.PlaceLemmas.{placed-append}
use Rattle.tree_edits.proofs.CellLemmas.{item-at, item-named, node-named, part-named}

-- ---- how often a number stands in lists

-- the head of a list counts for itself alone
head-once : (x : ℕ) (xs : List ℕ) → times_in x (x ∷ xs) ≡ 1 + times_in x xs
head-once x xs =
    let same : (x == x) ≡ true = grind (arith, nat_tests) in
    ap (λ (b : Bool). (if b then 1 else 0) + times_in x xs) same

head-other : (x k : ℕ) (xs : List ℕ) → x ≢ k → times_in k (x ∷ xs) ≡ times_in k xs
head-other x k xs other =
    let apart : (x == k) ≡ false = grind (arith, nat_tests) in
    let none : 0 + times_in k xs ≡ times_in k xs = omega arith in
    ap (λ (b : Bool). (if b then 1 else 0) + times_in k xs) apart ∙ none

pub record StandsAt (xs : List ℕ) (k : ℕ) : Type 0 where
  pub place : ℕ
  pub within : place < length xs
  pub at : get_or xs place 0 ≡ k

-- a number that stands in a list stands at a place
pub stands_at : (xs : List ℕ) (k : ℕ) → 0 < times_in k xs → StandsAt xs k
stands_at [] k some = absurd (omega (arith, some))
stands_at (x ∷ xs) k some = elim (cases_eq x k) [
  | inl here ↦ record { place = 0; within = omega arith; at = here }
  | inr other ↦
      let rest = stands_at xs k (omega (arith, some, head-other x k xs other)) in
      record { place = suc rest.place; within = omega (arith, rest.within); at = rest.at }
]

-- no number stands twice in a list whose places have different numbers
once-apart : (xs : List ℕ) (k : ℕ) → ((i j : ℕ) → i < j → j < length xs → get_or xs i 0 ≢ get_or xs j 0) → times_in k xs ≤ 1
once-apart [] k apart = omega arith
once-apart (x ∷ xs) k apart = elim (cases_lt 0 (times_in k xs)) [
  | inl some ↦
      let at = stands_at xs k some in
      let other : x ≢ k = λ same. apart 0 (suc at.place) (omega arith) (omega (arith, at.within)) (same ∙ sym at.at) in
      let rest = once-apart xs k (λ i j lt within. apart (suc i) (suc j) (omega (arith, lt)) (omega (arith, within))) in
      omega (arith, rest, head-other x k xs other)
  | inr none ↦ by_test (x == k) none
]
  where
    by_test : (b : Bool) → times_in k xs ≤ 0 → (if b then 1 else 0) + times_in k xs ≤ 1
    by_test true none = omega (arith, none)
    by_test false none = omega (arith, none)

-- ---- the numbers of the items of some nodes

record IsOfOne (numbers : ℕ → List ℕ) (ids : List ℕ) (k : ℕ) : Type 0 where
  id : ℕ
  among : 0 < times_in id ids
  of_it : 0 < times_in k (numbers id)

-- a number of some nodes is one of a node among them, and the other way round
of_one : (numbers : ℕ → List ℕ) (ids : List ℕ) (k : ℕ) → 0 < times_in k (flat_map numbers ids) → IsOfOne numbers ids k
of_one numbers [] k some = absurd (omega (arith, some))
of_one numbers (id ∷ ids) k some = elim (cases_lt 0 (times_in k (numbers id))) [
  | inl here ↦ record { id = id; among = omega (arith, head-once id ids); of_it = here }
  | inr none ↦
      let rest = of_one numbers ids k (omega (arith, some, none, times_in-append k (numbers id) (flat_map numbers ids))) in
      record { id = rest.id; among = omega (arith, rest.among); of_it = rest.of_it }
]

of_many : (numbers : ℕ → List ℕ) (ids : List ℕ) (id k : ℕ) → 0 < times_in id ids → 0 < times_in k (numbers id) → 0 < times_in k (flat_map numbers ids)
of_many numbers [] id k among some = absurd (omega (arith, among))
of_many numbers (x ∷ ids) id k among some = elim (cases_eq x id) [
  | inl here ↦
      let some' = subst (λ (y : ℕ). 0 < times_in k (numbers y)) (sym here) some in
      omega (arith, some', times_in-append k (numbers x) (flat_map numbers ids))
  | inr other ↦
      let rest = of_many numbers ids id k (omega (arith, among, head-other x id ids other)) some in
      omega (arith, rest, times_in-append k (numbers x) (flat_map numbers ids))
]

-- it is one once, where it is one of one node alone, and once
once-flat : (numbers : ℕ → List ℕ) (ids : List ℕ) (k : ℕ) → ((id : ℕ) → times_in id ids ≤ 1) → ((id : ℕ) → times_in k (numbers id) ≤ 1) →
    ((one other : ℕ) → 0 < times_in k (numbers one) → 0 < times_in k (numbers other) → one ≡ other) → times_in k (flat_map numbers ids) ≤ 1
once-flat numbers [] k once each one_node = omega arith
once-flat numbers (id ∷ ids) k once each one_node =
    let sum = times_in-append k (numbers id) (flat_map numbers ids) in
    let later = once-flat numbers ids k (λ x. omega (arith, once x)) each one_node in
    elim (cases_lt 0 (times_in k (numbers id))) [
      | inr none ↦ omega (arith, sum, none, later)
      | inl here ↦ elim (cases_lt 0 (times_in k (flat_map numbers ids))) [
        | inr none ↦ omega (arith, sum, none, each id)
        | inl some ↦
            let other = of_one numbers ids k some in
            let twice = subst (λ (x : ℕ). 0 < times_in x ids) (sym (one_node id other.id here other.of_it)) other.among in
            absurd (omega (arith, twice, head-once id ids, once id))
      ]
    ]

module _ (page : Contents) (items : ItemsState) (valid : IsValid page) (numbered : IsNumberedPage page items) where
  pub once-numbers : (id k : ℕ) → times_in k (numbers_of items id) ≤ 1
  once-numbers id k = once-apart (numbers_of items id) k apart
    where
      apart : (i j : ℕ) → i < j → j < length (numbers_of items id) → get_or (numbers_of items id) i 0 ≢ get_or (numbers_of items id) j 0
      apart i j lt within same =
          let within_i : i < length (numbers_of items id) = omega (arith, lt, within) in
          let item = item-at page items valid numbered id i within_i in
          let named = item-named page items valid numbered id i within_i in
          let first = part-named page items valid numbered id i within_i item named in
          let last = part-named page items valid numbered id j within item (subst (λ (n : ℕ). Names items n item) same named) in
          absurd (omega (arith, lt, first, last))

  one-node : (k one other : ℕ) → 0 < times_in k (numbers_of items one) → 0 < times_in k (numbers_of items other) → one ≡ other
  one-node k one other first last =
      let a = stands_at (numbers_of items one) k first in
      let b = stands_at (numbers_of items other) k last in
      let item = item-at page items valid numbered one a.place a.within in
      let named = item-named page items valid numbered one a.place a.within in
      sym (node-named page items valid numbered one a.place a.within item named)
      ∙ node-named page items valid numbered other b.place b.within item (subst (λ (n : ℕ). Names items n item) (a.at ∙ sym b.at) named)

  pub once-numbers_in : (ids : List ℕ) (k : ℕ) → ((id : ℕ) → times_in id ids ≤ 1) → times_in k (numbers_in items ids) ≤ 1
  once-numbers_in ids k once = once-flat (numbers_of items) ids k once (λ id. once-numbers id k) (one-node k)

  -- it is the number of an item
  pub is_number-of : (id k : ℕ) → 0 < times_in k (numbers_of items id) → IsNumber items k
  is_number-of id k some =
      let a = stands_at (numbers_of items id) k some in
      let item = item-at page items valid numbered id a.place a.within in
      (item, subst (λ (n : ℕ). Names items n item) a.at (item-named page items valid numbered id a.place a.within))

  pub is_number-in : (ids : List ℕ) (k : ℕ) → 0 < times_in k (numbers_in items ids) → IsNumber items k
  is_number-in ids k some =
      let one = of_one (numbers_of items) ids k some in
      is_number-of one.id k one.of_it

  -- and of an item of one of these nodes
  pub node-in : (ids : List ℕ) (k : ℕ) (item : Item) → Names items k item → 0 < times_in k (numbers_in items ids) → 0 < times_in item.node ids
  node-in ids k item named some =
      let one = of_one (numbers_of items) ids k some in
      let a = stands_at (numbers_of items one.id) k one.of_it in
      let node_is = node-named page items valid numbered one.id a.place a.within item (subst (λ (n : ℕ). Names items n item) (sym a.at) named) in
      subst (λ (id : ℕ). 0 < times_in id ids) (sym node_is) one.among

-- the number of an item of a node among these
pub number-in : (items : ItemsState) (ids : List ℕ) (k : ℕ) (item : Item) → Names items k item → 0 < times_in item.node ids → 0 < times_in k (numbers_in items ids)
number-in items ids k item named among =
    of_many (numbers_of items) ids item.node k among
    (subst (λ (n : ℕ). 0 < times_in n (numbers_of items item.node)) named.number_is (times-at (numbers_of items item.node) (place_of item.part) named.there))

-- ---- changes of distinct items

abbrev item_of : Change → ℕ
item_of c = c.item

among-mapped : (changes : List Change) (i : ℕ) (d : Change) → i < length changes → 0 < times_in (get_or changes i d).item (map item_of changes)
among-mapped [] i d within = absurd (omega (arith, within))
among-mapped (c ∷ changes) zero d within = omega (arith, head-once c.item (map item_of changes))
among-mapped (c ∷ changes) (suc i) d within = omega (arith, among-mapped changes i d (omega (arith, within)))

distinct-from : (changes : List Change) → ((k : ℕ) → times_in k (map item_of changes) ≤ 1) → AreOfDistinctItems changes
distinct-from [] once = λ i j d lt within. absurd (omega (arith, within))
distinct-from (c ∷ changes) once = AllPairs-cons (λ (one other : Change). one.item ≢ other.item) c changes apart (distinct-from changes (λ k. omega (arith, once k)))
  where
    apart : All (λ (other : Change). c.item ≢ other.item) changes
    apart i d within same =
        let twice = subst (λ (k : ℕ). 0 < times_in k (map item_of changes)) (sym same) (among-mapped changes i d within) in
        absurd (omega (arith, twice, head-once c.item (map item_of changes), once c.item))

-- the items of two rows of changes
items-both : (old old' new new' : ℕ → Rect) (xs ys : List ℕ) →
    map item_of (map (λ (n : ℕ). (let c : Change = record { item = n; old = old n; new = new n } in c)) xs ++ map (λ (n : ℕ). (let c : Change = record { item = n; old = old' n; new = new' n } in c)) ys) ≡ xs ++ ys
items-both old old' new new' [] [] = refl
items-both old old' new new' [] (y ∷ ys) = ap (λ (ns : List ℕ). y ∷ ns) (items-both old old' new new' [] ys)
items-both old old' new new' (x ∷ xs) ys = ap (λ (ns : List ℕ). x ∷ ns) (items-both old old' new new' xs ys)

-- no node stands twice in a subtree
once-subtree : (page : Contents) (subtree id : ℕ) → IsValid page → times_in id (ids_in (subtree_of page subtree)) ≤ 1
once-subtree page subtree id valid = by_test (subtree == 0)
  where
    by_test : (whole : Bool) → times_in id (ids_in (if whole then page.tree else tree_of page subtree)) ≤ 1
    by_test true = omega (arith, times_in-ids_in page.tree id, valid.distinct id)
    by_test false = omega (arith, times_in-ids_in (tree_of page subtree) id, occurrences-parted page.tree [] subtree id (valid.distinct subtree), valid.distinct id)

module _ (page : Contents) (items old : ItemsState) (bounds : List Rect) (subtree : ℕ) (gone : List ℕ) where
  abbrev numbers : List ℕ
  numbers = numbers_in items (ids_in (subtree_of page subtree))

  pub distinct-changes : IsValid page → IsNumberedPage page items → AreGone old items gone → AreOfDistinctItems (changes_of bounds page items subtree gone)
  distinct-changes valid numbered is_gone = distinct-from (changes_of bounds page items subtree gone) once
    where
      once : (k : ℕ) → times_in k (map item_of (changes_of bounds page items subtree gone)) ≤ 1
      once k =
          let items_are = ap (times_in k) (items-both (rect_under bounds) (rect_under bounds) (bounds_given page items) (λ n. no_rect) numbers gone) in
          let sum = times_in-append k numbers gone in
          let first = once-numbers_in page items valid numbered (ids_in (subtree_of page subtree)) k (λ id. once-subtree page subtree id valid) in
          elim (cases_lt 0 (times_in k gone)) [
            | inr none ↦ omega (arith, items_are, sum, first, none)
            | inl some ↦ elim (cases_lt 0 (times_in k numbers)) [
              | inr none ↦ omega (arith, items_are, sum, none, is_gone.once k)
              | inl both ↦ absurd (is_gone.none_is k some (is_number-in page items valid numbered (ids_in (subtree_of page subtree)) k both))
            ]
          ]

  -- what is so of each of these changes
  each-change : (P : Change → Type 0) → ((k : ℕ) → 0 < times_in k numbers → P (moved bounds page items k)) → ((k : ℕ) → 0 < times_in k gone → P (taken bounds k)) → All P (changes_of bounds page items subtree gone)
  each-change P first last =
      All-append P (map (moved bounds page items) numbers) (map (taken bounds) gone)
      (All-map P (moved bounds page items) numbers (λ k d within. first (get_or numbers k d) (among numbers k d within)))
      (All-map P (taken bounds) gone (λ k d within. last (get_or gone k d) (among gone k d within)))
    where
      among : (xs : List ℕ) (k d : ℕ) → k < length xs → 0 < times_in (get_or xs k d) xs
      among xs k d within = subst (λ (n : ℕ). 0 < times_in n xs) (sym (get_or_default_zero xs k d within)) (times-at xs k within)

  pub before-changes : All (λ (c : Change). c.old ≡ rect_under bounds c.item) (changes_of bounds page items subtree gone)
  before-changes = each-change (λ c. c.old ≡ rect_under bounds c.item) (λ k some. refl) (λ k some. refl)

  pub inside-changes : All (λ (c : Change). IsEmptyOrInside (region_of page.viewport) c.new) (changes_of bounds page items subtree gone)
  inside-changes = each-change (λ c. IsEmptyOrInside (region_of page.viewport) c.new) (λ k some. by_item (slice_get items.given k)) (λ k some. inl (inl (omega (arith, ints))))
    where
      by_item : (o : Option Item) → IsEmptyOrInside (region_of page.viewport) (option_map_or (view_bounds page) o no_rect)
      by_item None = inl (inl (omega (arith, ints)))
      by_item (Some item) = inside-view_bounds page item

  pub room-changes : (room : ℕ) → IsValid page → IsNumberedPage page items → AreGone old items gone → ((k : ℕ) → IsNumber items k → k < room) → ((k : ℕ) → IsNumber old k → k < room) → All (λ (c : Change). c.item < room) (changes_of bounds page items subtree gone)
  room-changes room valid numbered is_gone below below_old =
      each-change (λ c. c.item < room)
      (λ k some. below k (is_number-in page items valid numbered (ids_in (subtree_of page subtree)) k some))
      (λ k some. below_old k (is_gone.were k some))

-- ---- the bounds after the changes

module _ (old new : ℕ → Rect) where
  abbrev by : ℕ → Change
  by n = record { item = n; old = old n; new = new n }

  placed-absent : (xs : List ℕ) (k : ℕ) (before : Rect) → times_in k xs ≡ 0 → placed_by (map by xs) k before ≡ before
  placed-absent [] k before none = refl
  placed-absent (n ∷ xs) k before none = elim (cases_eq n k) [
    | inl here ↦ absurd (omega (arith, none, head-once n xs, ap (λ (m : ℕ). times_in m (n ∷ xs)) here))
    | inr other ↦
        let apart : (n == k) ≡ false = grind (arith, nat_tests) in
        ap (λ (b : Bool). placed_by (map by xs) k (if b then new n else before)) apart ∙ placed-absent xs k before (omega (arith, none, head-other n k xs other))
  ]

  placed-among : (xs : List ℕ) (k : ℕ) (before : Rect) → 0 < times_in k xs → placed_by (map by xs) k before ≡ new k
  placed-among [] k before some = absurd (omega (arith, some))
  placed-among (n ∷ xs) k before some = elim (cases_lt 0 (times_in k xs)) [
    | inl later ↦ placed-among xs k (if n == k then new n else before) later
    | inr none ↦ elim (cases_eq n k) [
      | inl here ↦
          let same : (n == k) ≡ true = grind (arith, nat_tests) in
          placed-absent xs k (if n == k then new n else before) (omega (arith, none)) ∙ ap (λ (b : Bool). if b then new n else before) same ∙ ap new here
      | inr other ↦ absurd (omega (arith, some, none, head-other n k xs other))
    ]
  ]

-- a node of the page after an edit that isn't among the renewed ones stands outside of the edited one
module _ (page : Contents) (edit : Edit) (faultless : IsFaultless page edit) where
  abbrev after : Contents
  after = edited page edit

  outside-renewed : (id : ℕ) → has_id after id ≡ true → times_in id (ids_in (subtree_of after (renewed_node page edit))) ≡ 0 → IsOutside page edit id
  outside-renewed id there none = by_node (edited_node page edit) refl none
    where
      nowhere : times_in id (ids_in after.tree) ≡ 0 → ⊥
      nowhere none' = false≢true (ap is_some (sym (placed_in-absent after.tree [] id (omega (arith, none', times_in-ids_in after.tree id)))) ∙ there)

      by_node : (o : Option ℕ) → edited_node page edit ≡ o → times_in id (ids_in (subtree_of after (unwrap_or o 0))) ≡ 0 → IsOutside page edit id
      by_node None is none' = absurd (nowhere none')
      by_node (Some changed) is none' = by_test (changed == 0) none'
        where
          by_test : (whole : Bool) → times_in id (ids_in (if whole then after.tree else tree_of after changed)) ≡ 0 → IsOutside page edit id
          by_test true none'' = absurd (nowhere none'')
          by_test false none'' =
              let stands : StandsApart after changed id = record { there = there; apart = among-times (ids_in (tree_of after changed)) id ∙ ap (nat_lt 0) none'' } in
              outside-before page edit faultless id (subst (λ (o : Option ℕ). IsSomeAnd o (λ node. StandsApart after node id)) (sym is) stands)

-- a node that has an item is in the page
pub there-item : (page : Contents) (item : Item) → IsItem page item → has_id page item.node ≡ true
there-item page item is = by_place (placed_of page item.node) is
  where
    by_place : (o : Option Placed) → Contains (items_at (option_map node_at o)) item → is_some o ≡ true
    by_place None (k, within, at) = absurd (omega (arith, within))
    by_place (Some p) is' = refl

module _ (page : Contents) (edit : Edit) (old new : ItemsState) (gone : List ℕ) (bounds after_bounds : List Rect) (faultless : IsFaultless page edit) (valid : IsValid (edited page edit))
    (was : IsNumberedPage page old) (now : IsNumberedPage (edited page edit) new) (keeps : KeepsNumbers old new (edited page edit)) (is_gone : AreGone old new gone) (are : AreBoundsOf bounds page old)
    (known : (k : ℕ) → rect_under after_bounds k ≡ placed_by (changes_of bounds (edited page edit) new (renewed_node page edit) gone) k (rect_under bounds k)) where
  abbrev left : Contents
  left = edited page edit

  abbrev ids : List ℕ
  ids = ids_in (subtree_of left (renewed_node page edit))

  abbrev first : ℕ → Rect
  first k = placed_by (map (moved bounds left new) (numbers_in new ids)) k (rect_under bounds k)

  step : (k : ℕ) → rect_under after_bounds k ≡ placed_by (map (taken bounds) gone) k (first k)
  step k = known k ∙ placed-append (map (moved bounds left new) (numbers_in new ids)) (map (taken bounds) gone) k (rect_under bounds k)

  stays : (k : ℕ) → times_in k gone ≡ 0 → rect_under after_bounds k ≡ first k
  stays k none = step k ∙ placed-absent (rect_under bounds) (λ n. no_rect) gone k (first k) none

  kept : (k : ℕ) → times_in k gone ≡ 0 → times_in k (numbers_in new ids) ≡ 0 → rect_under after_bounds k ≡ rect_under bounds k
  kept k none none' = stays k none ∙ placed-absent (rect_under bounds) (bounds_given left new) (numbers_in new ids) k (rect_under bounds k) none'

  -- an item of a node that isn't renewed had its number and its bounds
  outside-kept : (k : ℕ) (item : Item) → Names new k item → times_in item.node ids ≡ 0 → rect_under bounds k ≡ view_bounds left item
  outside-kept k item named none =
      let is_item = now.only k item named in
      let outside = outside-renewed page edit faultless item.node (there-item left item is_item) none in
      let was_item : IsItem page item = subst (λ (xs : List Item). Contains xs item) (items-outside page edit faultless item.node outside) is_item in
      let was_named = was.each item was_item in
      let same = now.one_number item was_named.0 k (keeps was_named.0 item was_named.1 is_item) named in
      are.named k item (subst (λ (n : ℕ). Names old n item) same was_named.1) ∙ sym (bounds-outside page edit faultless item outside)

  none-of : (k : ℕ) (xs : List ℕ) → (0 < times_in k xs → ⊥) → times_in k xs ≡ 0
  none-of k xs never = elim (cases_lt 0 (times_in k xs)) [
    | inl some ↦ absurd (never some)
    | inr none ↦ omega (arith, none)
  ]

  pub bounds-after : AreBoundsOf after_bounds left new
  bounds-after = record {
    named = λ k item named.
        let none = none-of k gone (λ some. is_gone.none_is k some (item, named)) in
        elim (cases_lt 0 (times_in k (numbers_in new ids))) [
          | inl some ↦
              stays k none ∙ placed-among (rect_under bounds) (bounds_given left new) (numbers_in new ids) k (rect_under bounds k) some
              ∙ ap (λ (o : Option Item). option_map_or (view_bounds left) o no_rect) named.given_to
          | inr absent ↦
              let never : 0 < times_in item.node ids → ⊥ = λ among. absurd (omega (arith, absent, number-in new ids k item named among)) in
              kept k none (omega (arith, absent)) ∙ outside-kept k item named (none-of item.node ids never)
        ];
    no_other = λ k never.
        let absent = none-of k (numbers_in new ids) (λ some. never (is_number-in left new valid now ids k some)) in
        elim (cases_lt 0 (times_in k gone)) [
          | inl some ↦ step k ∙ placed-among (rect_under bounds) (λ n. no_rect) gone k (first k) some
          | inr none ↦
              kept k (omega (arith, none)) absent
              ∙ are.no_other k (λ number. omega (arith, none, is_gone.all k number never))
        ];
  }

-- ---- the whole page

-- a number that no change is of is no number of either row
others-first : (f : ℕ → Change) → ((n : ℕ) → (f n).item ≡ n) → (xs : List ℕ) (rest : List Change) (k : ℕ) → AreOfOthers k (map f xs ++ rest) → times_in k xs ≡ 0
others-first f same [] rest k others = refl
others-first f same (x ∷ xs) rest k others =
    let other : x ≢ k = λ e. others 0 (f x) (omega arith) (same x ∙ e) in
    omega (arith, head-other x k xs other, others-first f same xs rest k (λ i d within. others (suc i) d (omega (arith, within))))

others-last : (xs ys : List Change) (k : ℕ) → AreOfOthers k (xs ++ ys) → AreOfOthers k ys
others-last [] ys k others = others
others-last (x ∷ xs) ys k others = others-last xs ys k (λ i d within. others (suc i) d (omega (arith, within)))

-- where the changes are those of a whole page, the others had no bounds
pub whole-others : (page before : Contents) (old new : ItemsState) (bounds : List Rect) (gone : List ℕ) → IsNumberedPage page new → AreGone old new gone → AreBoundsOf bounds before old →
    (k : ℕ) → AreOfOthers k (changes_of bounds page new 0 gone) → rect_under bounds k ≡ no_rect
whole-others page before old new bounds gone now is_gone are k others = are.no_other k was_none
  where
    numbers : List ℕ
    numbers = numbers_in new (ids_in page.tree)

    absent : times_in k numbers ≡ 0
    absent = others-first (moved bounds page new) (λ n. refl) numbers (map (taken bounds) gone) k others

    last : AreOfOthers k (map (taken bounds) gone ++ [])
    last = subst (AreOfOthers k) (sym (append-nil (map (taken bounds) gone))) (others-last (map (moved bounds page new) numbers) (map (taken bounds) gone) k others)

    absent' : times_in k gone ≡ 0
    absent' = others-first (taken bounds) (λ n. refl) gone [] k last

    is_none : IsNumber new k → ⊥
    is_none number =
        let there = there-item page number.0 (now.only k number.0 number.1) in
        let stands : 0 < times_in number.0.node (ids_in page.tree) = elim (cases_lt 0 (times_in number.0.node (ids_in page.tree))) [
          | inl some ↦ some
          | inr none ↦ absurd (false≢true (ap is_some (sym (placed_in-absent page.tree [] number.0.node (omega (arith, none, times_in-ids_in page.tree number.0.node)))) ∙ there))
        ] in
        omega (arith, absent, number-in new (ids_in page.tree) k number.0 number.1 stands)

    was_none : IsNumber old k → ⊥
    was_none number = omega (arith, absent', is_gone.all k number is_none)
