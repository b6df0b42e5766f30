-- What a query answers and how many steps it takes, by the numbers of the items near its point.
use Rattle.std.proofs.Common.{◌≡◌, ◌≤◌, ◌+◌, ℕ, ℤ, List, [], ◌∷◌, length, map, reverse, true, false, Bool, cond, if◌then◌else◌, refl, sym, ap, ◌∙◌, arith}
use Rattle.std.specs.Prelude.{◌&&◌, All}
use Rattle.std.specs.List.{filter, sum_by}
use Rattle.std.specs.List.Sorted.{IsPermutation, IsSortedBy}
use Rattle.std.proofs.lemmas.List.{length-map}
use Rattle.std.proofs.lemmas.List.Elements.{All-filter}
use Rattle.std.proofs.lemmas.List.Sorted.{sum_by-IsPermutation, length_permutation, All-permutation}
use Rattle.std.proofs.lemmas.List.Sums.{sum_by-cons}
use Rattle.fractions.specs.declared.rect.Rect.{Rect}
use Rattle.box_tree.specs.Forest.{roots_of}
use Rattle.box_tree.specs.Planned.{times_in}
use Rattle.paint_order.specs.Order.{is_member}
use Rattle.box_tree.specs.Contents.{Contents, IsValid}
use Rattle.box_tree.specs.Numbers.{ItemsState, IsNumber, IsNumberedPage}
use Rattle.paint_order.specs.State.{State}
use Rattle.tree_edits.specs.Cells.{AreBoundsOf}
use Rattle.tree_edits.specs.Faithful.{IsForestOf}
use Rattle.stacking.specs.Lists.{number_of}
use Rattle.stacking.specs.OnPage.{of_node}
use Rattle.stacking.specs.Painting.{layer}
use Rattle.point_query.specs.Bound.{member_bound, query_bound, query_least}
use Rattle.point_query.specs.Elements.{is_inside, elements_of, elements_with, elements_from_point, each_once, then_root}
use Rattle.point_query.specs.Near.{near_items, holds_at, is_held}
use Rattle.point_query.specs.Topmost.{StandOnce, lies_above, painted, item_named, items_named, AreTopmostFirst}
use Rattle.point_query.proofs.CandidateLemmas.{once-permutation, member-permutation, all-member}
use Rattle.point_query.proofs.LayerLemmas.{named-numbers, elements-topmost_first}
use Rattle.point_query.proofs.CellLemmas.{near-are_items, number-near}
use Rattle.point_query.proofs.NearLemmas.{met-admitted, bounds-admitted}
use Rattle.point_query.proofs.OrderLemmas.{member-filter}
use Rattle.point_query.proofs.BoundLemmas.{more-than_length}

-- numbers that pass a test are as often among those that do as among all, or not at all
once-filter : (p : ℕ → Bool) (xs : List ℕ) → StandOnce xs → StandOnce (filter p xs)
once-filter p xs once n = omega (arith, once n, fewer xs)
  where
    fewer : (xs : List ℕ) → times_in n (filter p xs) ≤ times_in n xs
    fewer [] = omega arith
    fewer (x ∷ xs) = by_test (p x) (fewer xs)
      where
        by_test : (b : Bool) → times_in n (filter p xs) ≤ times_in n xs → times_in n (cond b (x ∷ filter p xs) (filter p xs)) ≤ times_in n (x ∷ xs)
        by_test true rest = omega (arith, rest)
        by_test false rest = omega (arith, rest)

-- where each number counts for one at least, those that are left out count for no less than their number
sum-filter : (f : ℕ → ℕ) (p : ℕ → Bool) (xs : List ℕ) → ((n : ℕ) → 1 ≤ f n) → sum_by f (filter p xs) + length xs ≤ sum_by f xs + length (filter p xs)
sum-filter f p [] least = omega arith
sum-filter f p (x ∷ xs) least = by_test (p x) (sum-filter f p xs least)
  where
    by_test : (b : Bool) → sum_by f (filter p xs) + length xs ≤ sum_by f xs + length (filter p xs) →
        sum_by f (cond b (x ∷ filter p xs) (filter p xs)) + length (x ∷ xs) ≤ sum_by f (x ∷ xs) + length (cond b (x ∷ filter p xs) (filter p xs))
    by_test true rest = omega (arith, rest, sum_by-cons f x (filter p xs), sum_by-cons f x xs)
    by_test false rest = omega (arith, rest, sum_by-cons f x xs, least x)

module _ (page : Contents) (valid : IsValid page) (s : ItemsState) (are : IsNumberedPage page s) (x y : ℤ) (bounds : List Rect) (are_bounds : AreBoundsOf bounds page s) where
  -- the numbers of the items whose bounds hold a point, in the order of the forest
  pub ordered-topmost_first : (forest : State) (of_page : IsForestOf forest page s) (root : ℕ) (rooted : roots_of page.tree ≡ root ∷ []) → is_inside page.viewport x y ≡ true →
      (near numbers : List ℕ) → IsPermutation (map (number_of s) (near_items page x y)) near → StandOnce near → All (IsNumber s) near → IsPermutation (filter (is_held bounds x y) near) numbers → IsSortedBy (lies_above (painted forest)) numbers →
      AreTopmostFirst page s x y root numbers
  ordered-topmost_first forest of_page root rooted inside near numbers are_near once items moved sorted =
      let held : List ℕ = filter (is_held bounds x y) near in
      let all_items : All (IsNumber s) numbers = All-permutation (IsNumber s) held numbers moved (All-filter (is_held bounds x y) (IsNumber s) near items) in record {
        inside = inside;
        rooted = rooted;
        items = all_items;
        elements = elements-topmost_first page valid s are forest of_page root rooted x y numbers (once-permutation held numbers moved (once-filter (is_held bounds x y) near once)) sorted
            (λ n there. all-member (IsNumber s) n numbers all_items there)
            (λ n item names admitted.
            member-permutation n held numbers moved ∙ member-filter (is_held bounds x y) n near
            ∙ both (is_member n near) (is_held bounds x y n)
            (member-permutation n (map (number_of s) (near_items page x y)) near are_near ∙ number-near page valid x y s are n item names (met-admitted page x y item valid inside admitted))
            (ap (λ (r : Rect). holds_at r x y) (are_bounds.named n item names) ∙ bounds-admitted page x y item valid inside admitted));
      }
    where
      both : (a b : Bool) → a ≡ true → b ≡ true → (a && b) ≡ true
      both a b is is' = rw (is, is') refl

module _ (page : Contents) (valid : IsValid page) (s : ItemsState) (are : IsNumberedPage page s) (x y : ℤ) where
  -- the steps of items by their numbers
  sum-named : (numbers : List ℕ) → sum_by (member_bound page) (items_named s numbers) ≡ sum_by (λ n. member_bound page (item_named s n)) numbers
  sum-named [] = refl
  sum-named (n ∷ numbers) =
      sum_by-cons (member_bound page) (item_named s n) (items_named s numbers)
      ∙ ap (λ k. member_bound page (item_named s n) + k) (sum-named numbers)
      ∙ sym (sum_by-cons (λ n. member_bound page (item_named s n)) n numbers)

  -- those of the items near a point that pass a test may take as many steps as all of them, but for one for each of the others
  pub held-bound : (p : ℕ → Bool) (near numbers : List ℕ) → IsPermutation (map (number_of s) (near_items page x y)) near → IsPermutation (filter p near) numbers →
      sum_by (member_bound page) (items_named s numbers) + length (near_items page x y) ≤ sum_by (member_bound page) (near_items page x y) + length numbers
  held-bound p near numbers are_near moved =
      let all = map (number_of s) (near_items page x y) in
      let f : ℕ → ℕ = λ n. member_bound page (item_named s n) in
      let kept : sum_by (member_bound page) (items_named s numbers) ≡ sum_by f (filter p near) = sum-named numbers ∙ sum_by-IsPermutation f (filter p near) numbers moved in
      let near_is : sum_by f near ≡ sum_by (member_bound page) (near_items page x y) =
      sum_by-IsPermutation f all near are_near ∙ sym (sum-named all) ∙ ap (sum_by (member_bound page)) (named-numbers page valid s are (near_items page x y) (near-are_items page valid x y)) in
      let count : length near ≡ length (near_items page x y) = length_permutation all near are_near ∙ length-map (near_items page x y) (number_of s) in
      omega (arith, kept, near_is, count, length_permutation (filter p near) numbers moved, sum-filter f p near (λ n. omega arith))

-- the fewest steps of a query are no more than the most
pub least-bound : (page : Contents) (x y : ℤ) → query_least page x y ≤ query_bound page x y
least-bound page x y = omega (arith, more-than_length page (near_items page x y))

-- ---- the elements

-- inside the viewport of a page with a root the elements are those of the layer of the root, each once, and then the root
pub elements-within : (page : Contents) (x y : ℤ) (root : ℕ) → is_inside page.viewport x y ≡ true → roots_of page.tree ≡ root ∷ [] →
    elements_from_point page x y ≡ then_root root (each_once (elements_of page x y (reverse (of_node layer page root))))
elements-within page x y root inside rooted =
    ap (λ (b : Bool). if b then elements_with page x y (roots_of page.tree) else []) inside ∙ ap (elements_with page x y) rooted
