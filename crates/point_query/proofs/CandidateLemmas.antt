-- Numbers that stand once are no more than the list has members that they are all of, and an order changes nothing of that.
use Rattle.std.proofs.Common.{◌≡◌, ℕ, suc, ◌+◌, ◌<◌, ◌≤◌, ◌==◌, List, [], ◌∷◌, ◌++◌, length, take, drop, get_or, Bool, true, false, not, cond, if◌then◌else◌, refl, sym, ap, subst, ◌∙◌, arith}
use Rattle.std.specs.Prelude.{◌&&◌, ◌||◌, All}
use Rattle.std.specs.List.{filter, sum_by}
use Rattle.std.proofs.lemmas.Bool.{false≢true}
use Rattle.std.proofs.lemmas.Bool.Decides.{nat_tests}
use Rattle.std.specs.List.Sorted.{IsPermutation}
use Rattle.std.proofs.lemmas.List.{length-append, length-take-le, take-append-le, take_all}
use Rattle.std.proofs.lemmas.List.Sorted.{sum_by-IsPermutation, list_any-IsPermutation, length_permutation}
use Rattle.std.proofs.lemmas.List.Sums.{sum_by-cons}
use Rattle.box_tree.specs.declared.item.Item.{Item}
use Rattle.box_tree.specs.Forest.{Label, Forest, End, Grow, Placed}
use Rattle.box_tree.specs.Items.{item_count}
use Rattle.box_tree.specs.Planned.{times_in}
use Rattle.paint_order.specs.Order.{is_member}
use Rattle.paint_order.proofs.FlatLemmas.{or_first, or_second}
use Rattle.stacking.specs.Painting.{own, drawn}
use Rattle.stacking.specs.Counting.{count, items_in}
use Rattle.point_query.specs.Topmost.{StandOnce}
use Rattle.point_query.proofs.TopmostLemmas.{once-tail, once-head}
use Rattle.point_query.proofs.OrderLemmas.{member-filter}

-- where a number is a member it stands at a place
member-place : (x : ℕ) (xs : List ℕ) → is_member x xs ≡ true → (k : ℕ) × (k < length xs) × (get_or xs k 0 ≡ x)
member-place x [] there = absurd (false≢true there)
member-place x (y ∷ xs) there = by_test (member-place x xs) (y == x) refl there
  where
    by_test : (is_member x xs ≡ true → (k : ℕ) × (k < length xs) × (get_or xs k 0 ≡ x)) → (b : Bool) → (y == x) ≡ b → (b || is_member x xs) ≡ true → (k : ℕ) × (k < length (y ∷ xs)) × (get_or (y ∷ xs) k 0 ≡ x)
    by_test rest true is m = (0, omega arith, grind (arith, nat_tests))
    by_test rest false is m = let found = rest m in (suc found.0, omega (arith, found.1), found.2)

-- a list loses a member where only others are kept
fewer-others : (x : ℕ) (xs : List ℕ) → is_member x xs ≡ true → length (filter (λ y. not (y == x)) xs) + 1 ≤ length xs
fewer-others x [] there = absurd (false≢true there)
fewer-others x (y ∷ xs) there = by_test (y == x) there (fewer-others x xs) (at_most xs)
  where
    at_most : (xs : List ℕ) → length (filter (λ y. not (y == x)) xs) ≤ length xs
    at_most [] = omega arith
    at_most (y ∷ xs) = by_head (not (y == x)) (at_most xs)
      where
        by_head : (b : Bool) → length (filter (λ y. not (y == x)) xs) ≤ length xs → length (cond b (y ∷ filter (λ y. not (y == x)) xs) (filter (λ y. not (y == x)) xs)) ≤ suc (length xs)
        by_head true rest = omega (arith, rest)
        by_head false rest = omega (arith, rest)

    by_test : (b : Bool) → (b || is_member x xs) ≡ true → (is_member x xs ≡ true → length (filter (λ y. not (y == x)) xs) + 1 ≤ length xs) → length (filter (λ y. not (y == x)) xs) ≤ length xs →
        length (cond (not b) (y ∷ filter (λ y. not (y == x)) xs) (filter (λ y. not (y == x)) xs)) + 1 ≤ suc (length xs)
    by_test true is rest most = omega (arith, most)
    by_test false is rest most = omega (arith, rest is)

-- numbers that stand once, all of them members of a list, are no more than it has
pub once-fewer : (zs xs : List ℕ) → StandOnce zs → ((x : ℕ) → is_member x zs ≡ true → is_member x xs ≡ true) → length zs ≤ length xs
once-fewer [] xs once within = omega arith
once-fewer (z ∷ zs) xs once within =
    let others = filter (λ y. not (y == z)) xs in
    omega (arith, once-fewer zs others (once-tail z zs once) kept, fewer-others z xs (within z (or_first (z == z) (is_member z zs) (grind (arith, nat_tests)))))
  where
    kept : (x : ℕ) → is_member x zs ≡ true → is_member x (filter (λ y. not (y == z)) xs) ≡ true
    kept x there = member-filter (λ y. not (y == z)) x xs ∙ both (is_member x xs) (x == z) (within x (or_second (z == x) (is_member x zs) there)) (apart (x == z) refl)
      where
        both : (a b : Bool) → a ≡ true → b ≡ false → (a && not b) ≡ true
        both a b is is' = rw (is, is') refl

        apart : (b : Bool) → (x == z) ≡ b → b ≡ false
        apart true is = let same : x ≡ z = grind (arith, nat_tests) in absurd (false≢true (sym (once-head z zs once) ∙ ap (λ (n : ℕ). is_member n zs) (sym same) ∙ there))
        apart false is = refl

-- ---- the items of a page

pub counted-all : (items : List Item) → count (λ item. true) items ≡ length items
counted-all [] = refl
counted-all (item ∷ items) = omega (arith, counted-all items)

pub trees-count : (above : List Label) (f : Forest) → length (items_in above f) ≡ item_count f
trees-count above End = refl
trees-count above (Grow n below others) =
    let p : Placed = record { label = n; above = above; below = below } in
    omega (
      arith,
      length-append (own p) (drawn n ++ (items_in (n ∷ above) below ++ items_in above others)),
      length-append (drawn n) (items_in (n ∷ above) below ++ items_in above others),
      length-append (items_in (n ∷ above) below) (items_in above others),
      length-append (own p) (drawn n),
      trees-count (n ∷ above) below,
      trees-count above others,
    )

-- ---- numbers that are put in another order

times-sum : (n : ℕ) (xs : List ℕ) → times_in n xs ≡ sum_by (λ x. if x == n then 1 else 0) xs
times-sum n [] = refl
times-sum n (x ∷ xs) = ap (λ k. (if x == n then 1 else 0) + k) (times-sum n xs) ∙ sym (sum_by-cons (λ y. if y == n then 1 else 0) x xs)

pub once-permutation : (xs ys : List ℕ) → IsPermutation xs ys → StandOnce xs → StandOnce ys
once-permutation xs ys moved once n = omega (arith, once n, times-sum n xs, times-sum n ys, sum_by-IsPermutation (λ x. if x == n then 1 else 0) xs ys moved)

pub member-permutation : (n : ℕ) (xs ys : List ℕ) → IsPermutation xs ys → is_member n ys ≡ is_member n xs
member-permutation n xs ys moved = sym (list_any-IsPermutation (λ y. y == n) xs ys moved)

-- what holds of each of some numbers holds of a member
pub all-member : (P : ℕ → Type 0) (n : ℕ) (xs : List ℕ) → All P xs → is_member n xs ≡ true → P n
all-member P n xs all there = let at = member-place n xs there in subst P at.2 (all at.0 0 at.1)

-- the front of a list, put in another order
pub front-permutation : (n : ℕ) (xs ys rest : List ℕ) → n ≤ length xs → IsPermutation (take n xs) ys → take n (ys ++ rest) ≡ ys
front-permutation n xs ys rest within moved =
    let len : length ys ≡ n = length_permutation (take n xs) ys moved ∙ length-take-le n xs within in
    take-append-le n ys rest (omega (arith, len)) ∙ take_all n ys (omega (arith, len))

-- numbers of which some are kept at the front, and these put in another order there
module _ (p : ℕ → Bool) (count : ℕ) (numbers kept rest after : List ℕ) (long : length kept ≡ length numbers) (within : count ≤ length numbers) (held : take count kept ≡ filter p numbers) (moved : IsPermutation (take count (kept ++ rest)) after) where
  pub held-front : take count (after ++ drop count (kept ++ rest)) ≡ after
  held-front = front-permutation count (kept ++ rest) after (drop count (kept ++ rest)) (omega (arith, length-append kept rest, long, within)) moved

  pub held-moved : IsPermutation (filter p numbers) after
  held-moved = subst (λ (ns : List ℕ). IsPermutation ns after) (take-append-le count kept rest (omega (arith, long, within)) ∙ held) moved

  pub held-count : length after ≡ count
  held-count = length_permutation (take count (kept ++ rest)) after moved ∙ length-take-le count (kept ++ rest) (omega (arith, length-append kept rest, long, within))
