-- The members of the cells of a point, level by level, are the numbers of the items near the point.
use Rattle.std.proofs.Common.{◌≡◌, ℕ, zero, suc, ◌+◌, ◌<◌, ◌≤◌, ◌==◌, nat_lt, List, [], ◌∷◌, ◌++◌, length, map, inl, inr, Option, Some, None, Bool, true, false, cond, if◌then◌else◌, refl, sym, ap, subst, ◌∙◌, ℤ, arith}
use Rattle.std.specs.Prelude.{◌⊎◌, ◌||◌, slice_get}
use Rattle.std.specs.List.{filter, AllByRecursion}
use Rattle.std.specs.List.Sorted.{IsPermutation}
use Rattle.std.proofs.lemmas.Bool.{false≢true, cases_lt}
use Rattle.std.proofs.lemmas.Bool.Decides.{nat_tests}
use Rattle.std.proofs.lemmas.Int.{ints}
use Rattle.std.proofs.lemmas.List.{length-map}
use Rattle.std.proofs.lemmas.List.Sums.{sum_by-cons}
use Rattle.std.proofs.lemmas.List.Sorted.{IsPermutation-refl, IsPermutation-sym, IsPermutation-trans, IsPermutation-cons, IsPermutation-middle, length_permutation}
use Rattle.fractions.specs.declared.rect.Rect.{Rect}
use Rattle.spatial_index.specs.Cells.{Region, IsCell, is_empty, line_of, least_level, level_of, is_met}
use Rattle.spatial_index.specs.Contents.{GridState, cell_at, times as stands, once_if}
use Rattle.spatial_index.proofs.PlanLemmas.{least_level-le, is_met-elsewhere}
use Rattle.spatial_index.proofs.GridLemmas.{IsCell-point}
use Rattle.box_tree.specs.declared.item.Item.{Item}
use Rattle.box_tree.specs.Contents.{Contents, IsValid}
use Rattle.box_tree.specs.Items.{item_count}
use Rattle.box_tree.specs.Numbers.{ItemsState, numbers_of, place_of, Names, IsItem, IsNumber, IsNumberedPage}
use Rattle.box_tree.specs.Planned.{times_in}
use Rattle.box_tree.proofs.CountLemmas.{times_in-append}
use Rattle.box_tree.proofs.PlacedLemmas.{page-at_places}
use Rattle.paint_order.specs.Order.{is_member}
use Rattle.stacking.specs.Counting.{count, items_in, root_layer, is_item}
use Rattle.stacking.specs.Lists.{number_of}
use Rattle.stacking.proofs.CountLemmas.{all_items_are_painted}
use Rattle.stacking.proofs.OnceLemmas as once
use Rattle.stacking.proofs.WholeLemmas.{item_true}
use Rattle.tree_edits.specs.Bounds.{view_bounds}
use Rattle.tree_edits.specs.Cells.{IsGridOf, region_of}
use Rattle.point_query.specs.Elements.{is_inside}
use Rattle.point_query.specs.Near.{meets_cell_at, near_items, members_below}
use Rattle.point_query.specs.Topmost.{StandOnce}
use Rattle.point_query.proofs.TopmostLemmas.{times-member}
use Rattle.point_query.proofs.LayerLemmas.{counted-each, trees-items, painted-item, member-map, map-member, times-nowhere, number-names, times-number, number-in_layer}
use Rattle.point_query.proofs.CandidateLemmas.{once-fewer, counted-all, trees-count}

-- ---- how often numbers stand

stands-times : (n : ℕ) (xs : List ℕ) → times_in n xs ≡ stands n xs
unfolding stands
stands-times n [] = refl
stands-times n (x ∷ xs) = ap (λ k. (if x == n then 1 else 0) + k) (stands-times n xs) ∙ sym (sum_by-cons (λ other. if other == n then 1 else 0) x xs)

-- a member has numbers before it and behind it
member-split : (x : ℕ) (ys : List ℕ) → is_member x ys ≡ true → (front : List ℕ) × (back : List ℕ) × (ys ≡ front ++ x ∷ back)
member-split x [] there = absurd (false≢true there)
member-split x (y ∷ ys) there = by_test (y == x) refl there (member-split x ys)
  where
    by_test : (b : Bool) → (y == x) ≡ b → (b || is_member x ys) ≡ true → (is_member x ys ≡ true → (front : List ℕ) × (back : List ℕ) × (ys ≡ front ++ x ∷ back)) → (front : List ℕ) × (back : List ℕ) × (y ∷ ys ≡ front ++ x ∷ back)
    by_test true is some rest = let same : y ≡ x = grind (arith, nat_tests) in ([], ys, ap (λ (n : ℕ). n ∷ ys) same)
    by_test false is some rest = let found = rest some in (y ∷ found.0, found.1, ap (λ (ns : List ℕ). y ∷ ns) found.2)

times-itself : (x : ℕ) (xs : List ℕ) → times_in x (x ∷ xs) ≡ 1 + times_in x xs
times-itself x xs = let same : (x == x) ≡ true = grind (arith, nat_tests) in ap (λ (b : Bool). (if b then 1 else 0) + times_in x xs) same

member-times : (x : ℕ) (xs : List ℕ) → 1 ≤ times_in x xs → is_member x xs ≡ true
member-times x xs some = by_test (is_member x xs) refl
  where
    by_test : (b : Bool) → is_member x xs ≡ b → b ≡ true
    by_test true is = refl
    by_test false is = absurd (omega (arith, some, times-nowhere x xs is))

-- lists in which each number stands as often are the same but for their order
permutation-times : (xs ys : List ℕ) → ((n : ℕ) → times_in n xs ≡ times_in n ys) → IsPermutation xs ys
permutation-times [] [] same = IsPermutation-refl []
permutation-times [] (y ∷ ys) same = absurd (omega (arith, same y, times-itself y ys))
permutation-times (x ∷ xs) ys same =
    let split = member-split x ys (member-times x ys (omega (arith, same x, times-itself x xs))) in
    let rest : IsPermutation xs (split.0 ++ split.1) = permutation-times xs (split.0 ++ split.1) (λ n. omega (arith, same n, ap (times_in n) split.2, times_in-append n split.0 (x ∷ split.1), times_in-append n split.0 split.1)) in
    subst (λ (zs : List ℕ). IsPermutation (x ∷ xs) zs) (sym split.2)
    (IsPermutation-trans (x ∷ xs) (x ∷ (split.0 ++ split.1)) (split.0 ++ x ∷ split.1) (IsPermutation-cons x xs (split.0 ++ split.1) rest)
    (IsPermutation-sym (split.0 ++ x ∷ split.1) (x ∷ (split.0 ++ split.1)) (IsPermutation-middle split.0 x split.1)))

-- an item is counted among those that pass a test where it passes it
count-filter : (test : Item → Bool) (item : Item) (items : List Item) → count (is_item item) (filter test items) ≡ (if test item then count (is_item item) items else 0)
count-filter test item [] = by_test (test item)
  where
    by_test : (b : Bool) → count (is_item item) [] ≡ (if b then 0 else 0)
    by_test true = refl
    by_test false = refl
count-filter test item (other ∷ items) = by_tests (test other) (is_item item other) (test item) refl refl refl (count-filter test item items)
  where
    by_tests : (a b c : Bool) → test other ≡ a → is_item item other ≡ b → test item ≡ c → count (is_item item) (filter test items) ≡ (if test item then count (is_item item) items else 0) →
        count (is_item item) (cond a (other ∷ filter test items) (filter test items)) ≡ (if c then (if b then 1 else 0) + count (is_item item) items else 0)
    by_tests true true true is is' is'' rest = omega (arith, rest, ap {B = ℕ} (λ b. if b then 1 else 0) is', ap {B = ℕ} (λ b. if b then count (is_item item) items else 0) is'')
    by_tests true false true is is' is'' rest = omega (arith, rest, ap {B = ℕ} (λ b. if b then 1 else 0) is', ap {B = ℕ} (λ b. if b then count (is_item item) items else 0) is'')
    by_tests false false true is is' is'' rest = omega (arith, rest, ap {B = ℕ} (λ b. if b then count (is_item item) items else 0) is'')
    by_tests false false false is is' is'' rest = omega (arith, rest, ap {B = ℕ} (λ b. if b then count (is_item item) items else 0) is'')
    by_tests true false false is is' is'' rest = omega (arith, rest, ap {B = ℕ} (λ b. if b then 1 else 0) is', ap {B = ℕ} (λ b. if b then count (is_item item) items else 0) is'')
    by_tests false true true is is' is'' rest = absurd (false≢true (sym is ∙ ap test (item_true item other is') ∙ is''))
    by_tests true true false is is' is'' rest = absurd (false≢true (sym is'' ∙ ap test (sym (item_true item other is')) ∙ is))
    by_tests false true false is is' is'' rest = omega (arith, rest, ap {B = ℕ} (λ b. if b then count (is_item item) items else 0) is'')

all-filter : (P : Item → Type 0) (test : Item → Bool) (items : List Item) → AllByRecursion P items → AllByRecursion P (filter test items)
all-filter P test [] all = tt
all-filter P test (item ∷ items) all = by_test (test item) (all-filter P test items all.1)
  where
    by_test : (b : Bool) → AllByRecursion P (filter test items) → AllByRecursion P (cond b (item ∷ filter test items) (filter test items))
    by_test true rest = (all.0, rest)
    by_test false rest = rest

once_if-most : (b : Bool) → once_if b ≤ 1
once_if-most true = omega arith
once_if-most false = omega arith

-- ---- the levels of bounds

level-at_most : (bounds : Rect) → level_of bounds ≤ 9
unfolding level_of
level-at_most bounds = by_test (is_empty bounds)
  where
    by_test : (b : Bool) → (if b then 0 else least_level bounds 0 9) ≤ 9
    by_test true = omega arith
    by_test false = least_level-le bounds 0 9

-- whether an item has a number
number-or_not : (s : ItemsState) (n : ℕ) → IsNumber s n ⊎ (IsNumber s n → ⊥)
number-or_not s n = by_item (slice_get s.given n) refl
  where
    by_item : (o : Option Item) → slice_get s.given n ≡ o → IsNumber s n ⊎ (IsNumber s n → ⊥)
    by_item None none = inr (λ is. let both : None ≡ Some is.0 = sym none ∙ is.1.given_to in absurd cc)
    by_item (Some item) found = by_tests (nat_lt (place_of item.part) (length (numbers_of s item.node))) (number_of s item == n) refl refl
      where
        same : (is : IsNumber s n) → is.0 ≡ item
        same is = let both : Some is.0 ≡ Some item = sym is.1.given_to ∙ found in cc

        by_tests : (a b : Bool) → nat_lt (place_of item.part) (length (numbers_of s item.node)) ≡ a → (number_of s item == n) ≡ b → IsNumber s n ⊎ (IsNumber s n → ⊥)
        by_tests true true is is' = inl (item, record { given_to = found; there = grind (arith, nat_tests); number_is = grind (arith, nat_tests) })
        by_tests false b is is' = inr (λ has. let there = subst (λ (i : Item). place_of i.part < length (numbers_of s i.node)) (same has) has.1.there in absurd (grind (arith, nat_tests)))
        by_tests true false is is' = inr (λ has. let number = subst (λ (i : Item). number_of s i ≡ n) (same has) has.1.number_is in absurd (grind (arith, nat_tests)))

-- ---- the items near a point

module _ (page : Contents) (valid : IsValid page) (x y : ℤ) where
  abbrev test : Item → Bool
  test item = meets_cell_at (view_bounds page item) x y

  pub near-are_items : AllByRecursion (IsItem page) (near_items page x y)
  near-are_items = all-filter (IsItem page) test (items_in [] page.tree) (trees-items page valid [] page.tree (page-at_places page valid))

  -- an item of the page is counted once among those near the point where it is one
  counted-near : (item : Item) → IsItem page item → count (is_item item) (near_items page x y) ≡ once_if (test item)
  counted-near item is = by_test (test item) refl
    where
      one : count (is_item item) (items_in [] page.tree) ≡ 1
      one = omega (arith, painted-item page item valid is, once.each_item_is_painted_once page valid item, all_items_are_painted page valid (is_item item))

      by_test : (b : Bool) → test item ≡ b → count (is_item item) (near_items page x y) ≡ once_if b
      by_test true passes = count-filter test item (items_in [] page.tree) ∙ ap {B = ℕ} (λ (b : Bool). if b then count (is_item item) (items_in [] page.tree) else 0) passes ∙ one
      by_test false passes = count-filter test item (items_in [] page.tree) ∙ ap {B = ℕ} (λ (b : Bool). if b then count (is_item item) (items_in [] page.tree) else 0) passes

  -- the number of an item that is near the point is one of theirs
  pub number-near : (s : ItemsState) → IsNumberedPage page s → (n : ℕ) (item : Item) → Names s n item → meets_cell_at (view_bounds page item) x y ≡ true → is_member n (map (number_of s) (near_items page x y)) ≡ true
  number-near s are n item names near =
      subst (λ (k : ℕ). is_member k (map (number_of s) (near_items page x y)) ≡ true) names.number_is
      (map-member (number_of s) item (near_items page x y) (omega (arith, counted-near item (are.only n item names), ap once_if near)))

-- ---- the cells of a point

module _ (page : Contents) (s : ItemsState) (grid : GridState) (of_page : IsGridOf grid page s) (x y : ℤ) (inside : is_inside page.viewport x y ≡ true) where
  pub cell-inside : (level : ℕ) → level ≤ 9 → IsCell grid.region level (line_of level x) (line_of level y)
  cell-inside level within =
      subst (λ (region : Region). IsCell region level (line_of level x) (line_of level y)) (sym of_page.region)
      (IsCell-point (region_of page.viewport) level x y within (grind (arith, ints)) (grind (arith, ints)) (grind (arith, ints)) (grind (arith, ints)))

  -- how often a number stands in one level more
  times-level : (n level : ℕ) → times_in n (members_below grid x y (suc level)) ≡ times_in n (members_below grid x y level) + stands n (cell_at grid level (line_of level x) (line_of level y)).items
  times-level n level =
      let cell = (cell_at grid level (line_of level x) (line_of level y)).items in
      omega (arith, times_in-append n (members_below grid x y level) cell, stands-times n cell)

  -- what is no item's number stands in none
  times-no_number : (n : ℕ) → (IsNumber s n → ⊥) → (level : ℕ) → level ≤ 10 → times_in n (members_below grid x y level) ≡ 0
  times-no_number n none zero within = refl
  times-no_number n none (suc level) within = omega (arith, times-level n level, times-no_number n none level (omega arith), of_page.no_other n none level (line_of level x) (line_of level y) (cell-inside level (omega arith)))

  module _ (n : ℕ) (item : Item) (names : Names s n item) where
    abbrev bounds : Rect
    bounds = view_bounds page item

    stands-level : (level : ℕ) → level ≤ 9 → stands n (cell_at grid level (line_of level x) (line_of level y)).items ≡ once_if (is_met bounds level (line_of level x) (line_of level y))
    stands-level level within = of_page.stands n item names level (line_of level x) (line_of level y) (cell-inside level within)

    -- it stands in no level below that of its bounds
    times-below : (level : ℕ) → level ≤ 10 → level ≤ level_of bounds → times_in n (members_below grid x y level) ≡ 0
    times-below zero within below = refl
    times-below (suc level) within below =
        let off : is_met bounds level (line_of level x) (line_of level y) ≡ false = is_met-elsewhere bounds level (line_of level x) (line_of level y) (λ same. absurd (omega (arith, below, same))) in
        omega (arith, times-level n level, times-below level (omega arith) (omega (arith, below)), stands-level level (omega arith), ap once_if off)

    -- and once from there on, where the bounds meet the cell of the point
    times-above : (level : ℕ) → level ≤ 10 → level_of bounds < level → times_in n (members_below grid x y level) ≡ once_if (meets_cell_at bounds x y)
    times-above zero within above = absurd (omega arith)
    times-above (suc level) within above = elim (cases_lt (level_of bounds) level) [
      | inl less ↦
          let off : is_met bounds level (line_of level x) (line_of level y) ≡ false = is_met-elsewhere bounds level (line_of level x) (line_of level y) (λ same. absurd (omega (arith, less, same))) in
          omega (arith, times-level n level, times-above level (omega arith) less, stands-level level (omega arith), ap once_if off)
      | inr not_less ↦
          let here : level_of bounds ≡ level = omega (arith, above, not_less) in
          omega (arith, times-level n level, times-below level (omega arith) (omega (arith, here)), stands-level level (omega arith), ap {B = ℕ} (λ (l : ℕ). once_if (is_met bounds l (line_of l x) (line_of l y))) here)
    ]

    pub times-members : times_in n (members_below grid x y 10) ≡ once_if (meets_cell_at bounds x y)
    times-members = times-above 10 (omega arith) (omega (arith, level-at_most bounds))

  -- each of them is the number of an item, and stands there once
  pub numbers-below : (level n : ℕ) → level ≤ 10 → is_member n (members_below grid x y level) ≡ true → IsNumber s n
  numbers-below level n within there = elim (number-or_not s n) [
    | inl is ↦ is
    | inr none ↦ absurd (omega (arith, times-member n (members_below grid x y level) there, times-no_number n none level within))
  ]

  pub once-below : (level : ℕ) → level ≤ 10 → StandOnce (members_below grid x y level)
  once-below level within n = elim (number-or_not s n) [
    | inl is ↦ elim (cases_lt (level_of (view_bounds page is.0)) level) [
      | inl above ↦ omega (arith, times-above n is.0 is.1 level within above, once_if-most (meets_cell_at (view_bounds page is.0) x y))
      | inr below ↦ omega (arith, times-below n is.0 is.1 level within (omega (arith, below)))
    ]
    | inr none ↦ omega (arith, times-no_number n none level within)
  ]

  module _ (valid : IsValid page) (are : IsNumberedPage page s) where
    -- they are as many as items at most
    pub fewer-below : (level : ℕ) → level ≤ 10 → length (members_below grid x y level) ≤ item_count page.tree
    fewer-below level within = omega (
      arith,
      once-fewer (members_below grid x y level) (map (number_of s) (root_layer page.tree)) (once-below level within) (λ n there. number-in_layer page valid s are n (numbers-below level n within there)),
      length-map (root_layer page.tree) (number_of s),
      counted-all (root_layer page.tree),
      counted-all (items_in [] page.tree),
      all_items_are_painted page valid (λ item. true),
      trees-count [] page.tree,
    )

    -- they are the numbers of the items near the point
    pub near-members : IsPermutation (map (number_of s) (near_items page x y)) (members_below grid x y 10)
    near-members = permutation-times (map (number_of s) (near_items page x y)) (members_below grid x y 10) alike
      where
        none-near : (n : ℕ) → (IsNumber s n → ⊥) → times_in n (map (number_of s) (near_items page x y)) ≡ 0
        none-near n none = by_test (is_member n (map (number_of s) (near_items page x y))) refl
          where
            by_test : (b : Bool) → is_member n (map (number_of s) (near_items page x y)) ≡ b → times_in n (map (number_of s) (near_items page x y)) ≡ 0
            by_test true there =
                let found = member-map (number_of s) n (near_items page x y) there in
                let is = counted-each (IsItem page) (near_items page x y) (near-are_items page valid x y) found.0 found.1 in
                absurd (none (found.0, subst (λ (k : ℕ). Names s k found.0) found.2 (number-names page valid s are found.0 is)))
            by_test false nowhere = times-nowhere n (map (number_of s) (near_items page x y)) nowhere

        alike : (n : ℕ) → times_in n (map (number_of s) (near_items page x y)) ≡ times_in n (members_below grid x y 10)
        alike n = elim (number-or_not s n) [
          | inl is ↦
              let item_is = are.only n is.0 is.1 in
              ap (λ (k : ℕ). times_in k (map (number_of s) (near_items page x y))) (sym is.1.number_is)
              ∙ times-number page valid s are is.0 item_is (near_items page x y) (near-are_items page valid x y)
              ∙ counted-near page valid x y is.0 item_is
              ∙ sym (times-members n is.0 is.1)
          | inr none ↦ none-near n none ∙ sym (times-no_number n none 10 (omega arith))
        ]

    -- and as many as these
    pub near-count : length (members_below grid x y 10) ≡ length (near_items page x y)
    near-count = length_permutation (map (number_of s) (near_items page x y)) (members_below grid x y 10) near-members ∙ length-map (near_items page x y) (number_of s)
