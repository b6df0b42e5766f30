-- A sum of weights over the list of a stacking context is one over its own items and its members, and what a sum that is
-- few says of places.
use Rattle.std.proofs.Common.{◌≡◌, ℕ, zero, suc, ◌+◌, ◌<◌, ◌≤◌, List, [], ◌∷◌, ◌++◌, Some, slice_get, Bool, true, false, refl, sym, ap, ◌∙◌, arith}
use Rattle.std.proofs.lemmas.Bool.{false≢true}
use Rattle.std.proofs.lemmas.Int.{ints}
use Rattle.std.proofs.lemmas.Option.{none-some, same_Some}
use Rattle.std.specs.Prelude.{if◌then◌else◌, cond, not, ◌&&◌, ◌||◌, int_lt, pos}
use Rattle.std.specs.List.{filter, flat_map}
use Rattle.box_tree.specs.declared.item.Item.{Item}
use Rattle.box_tree.specs.Forest.{Label, Forest, Grow, Placed}
use Rattle.box_tree.specs.Used.{is_positioned, is_real_context}
use Rattle.stacking.specs.Painting.{at, is_member, shares_of, shares_in, head, body, level_of, is_on_lower_level, context_members, context_list}
use Rattle.stacking.specs.Sorting.{put_in_order, sorted_by}

-- the weight of a list
abbrev pub total : {X : Type 0} → (X → ℕ) → List X → ℕ
total weight [] = 0
total weight (x ∷ xs) = weight x + total weight xs

pub total-append : {X : Type 0} (w : X → ℕ) (xs ys : List X) → total w (xs ++ ys) ≡ total w xs + total w ys
total-append w [] ys = omega arith
total-append w (x ∷ xs) ys = omega (arith, total-append w xs ys)

total-put : {X : Type 0} (w : X → ℕ) (lt : X → X → Bool) (x : X) (ys : List X) → total w (put_in_order lt x ys) ≡ w x + total w ys
total-put w lt x [] = refl
total-put w lt x (y ∷ ys) = by_test (total-put w lt x ys) (lt y x)
  where
    by_test : total w (put_in_order lt x ys) ≡ w x + total w ys → (b : Bool) → total w (if b then y ∷ put_in_order lt x ys else x ∷ (y ∷ ys)) ≡ w x + (w y + total w ys)
    by_test rest true = omega (arith, rest)
    by_test rest false = refl

-- a sort moves elements only
pub total-sorted : {X : Type 0} (w : X → ℕ) (lt : X → X → Bool) (xs : List X) → total w (sorted_by lt xs) ≡ total w xs
total-sorted w lt [] = refl
total-sorted w lt (x ∷ xs) = omega (arith, total-put w lt x (sorted_by lt xs), total-sorted w lt xs)

-- the weight of lists that are joined
pub total-flat_map : {X Y : Type 0} (w : Y → ℕ) (f : X → List Y) (xs : List X) → total w (flat_map f xs) ≡ total (λ x. total w (f x)) xs
total-flat_map w f [] = refl
total-flat_map w f (x ∷ xs) = omega (arith, total-append w (f x) (flat_map f xs), total-flat_map w f xs)

-- the weight of elements that weigh the same, and of those that weigh two weights
pub total-same : {X : Type 0} (v w : X → ℕ) → ((x : X) → v x ≡ w x) → (xs : List X) → total v xs ≡ total w xs
total-same v w same [] = refl
total-same v w same (x ∷ xs) = omega (arith, same x, total-same v w same xs)

pub total-plus : {X : Type 0} (u v w : X → ℕ) → ((x : X) → u x ≡ v x + w x) → (xs : List X) → total u xs ≡ total v xs + total w xs
total-plus u v w both [] = refl
total-plus u v w both (x ∷ xs) = omega (arith, both x, total-plus u v w both xs)

-- an element that stands in a list weighs no more than the list
pub weighs : {X : Type 0} (w : X → ℕ) (xs : List X) (k : ℕ) (x : X) → slice_get xs k ≡ Some x → w x ≤ total w xs
weighs w [] k x at = absurd (none-some x at)
weighs w (y ∷ ys) zero x at = omega (arith, ap w (same_Some y x at))
weighs w (y ∷ ys) (suc k) x at = omega (arith, weighs w ys k x at)

-- one that weighs 1 stands in a list that weighs no more at one place
pub one_place : {X : Type 0} (w : X → ℕ) (xs : List X) (j k : ℕ) (x : X) → total w xs ≤ 1 → w x ≡ 1 → slice_get xs j ≡ Some x → slice_get xs k ≡ Some x → j ≡ k
one_place w [] j k x few one at at' = absurd (none-some x at)
one_place w (y ∷ ys) zero zero x few one at at' = refl
one_place w (y ∷ ys) zero (suc k) x few one at at' = absurd (omega (arith, ap w (same_Some y x at), weighs w ys k x at', few, one))
one_place w (y ∷ ys) (suc j) zero x few one at at' = absurd (omega (arith, ap w (same_Some y x at'), weighs w ys j x at, few, one))
one_place w (y ∷ ys) (suc j) (suc k) x few one at at' = ap suc (one_place w ys j k x (omega (arith, few)) one at at')

-- an element that weighs something in a list
pub record IsHeavy {X : Type 0} (w : X → ℕ) (xs : List X) : Type 0 where
  pub place : ℕ
  pub element : X
  pub at : slice_get xs place ≡ Some element
  pub some : 0 < w element

pub heavy : {X : Type 0} (w : X → ℕ) (xs : List X) → 0 < total w xs → IsHeavy w xs
heavy w [] some = absurd (omega arith)
heavy w (x ∷ xs) some = by_weight (w x) refl (λ rest. heavy w xs rest)
  where
    by_weight : (k : ℕ) → w x ≡ k → (0 < total w xs → IsHeavy w xs) → IsHeavy w (x ∷ xs)
    by_weight zero is rest = let later = rest (omega (arith, some, is)) in record { place = suc later.place; element = later.element; at = later.at; some = later.some }
    by_weight (suc k) is rest = record { place = 0; element = x; at = refl; some = omega (arith, is) }

-- the members below level 0, of level 0 and above it are all members
module _ (w : Placed → ℕ) where
  total-levels : (ms : List Placed) → total w (filter (λ m. int_lt (level_of m) (pos 0)) ms)
      + (total w (filter (λ m. not (int_lt (level_of m) (pos 0)) && not (int_lt (pos 0) (level_of m))) ms) + total w (filter (λ m. int_lt (pos 0) (level_of m)) ms)) ≡ total w ms
  total-levels [] = refl
  total-levels (m ∷ ms) = by_tests (filter (λ m'. int_lt (level_of m') (pos 0)) ms) (filter (λ m'. not (int_lt (level_of m') (pos 0)) && not (int_lt (pos 0) (level_of m'))) ms) (filter (λ m'. int_lt (pos 0) (level_of m')) ms)
      (total-levels ms) (int_lt (level_of m) (pos 0)) (int_lt (pos 0) (level_of m)) (grind (arith, ints))
    where
      by_tests : (xs ys zs : List Placed) → total w xs + (total w ys + total w zs) ≡ total w ms → (b c : Bool) → (b && c) ≡ false →
          total w (cond b (m ∷ xs) xs) + (total w (cond (not b && not c) (m ∷ ys) ys) + total w (cond c (m ∷ zs) zs)) ≡ w m + total w ms
      by_tests xs ys zs rest true true one = absurd (false≢true (sym one))
      by_tests xs ys zs rest true false one = omega (arith, rest)
      by_tests xs ys zs rest false true one = omega (arith, rest)
      by_tests xs ys zs rest false false one = omega (arith, rest)

-- the weight of the list of a stacking context, from what its items and its members become
module _ {E : Type 0} (w : E → ℕ) (given : List Item → List E) (member : Placed → List E) where
  pub total-list : (p : Placed) → total w (context_list given member p) ≡ total w (given (head p)) + (total w (given (body p)) + total (λ m. total w (member m)) (flat_map (λ s. s.members) (shares_in p)))
  total-list p =
      let ms = context_members p in
      let negative = filter (λ m. int_lt (level_of m) (pos 0)) ms in
      let zeroth = filter (λ m. not (int_lt (level_of m) (pos 0)) && not (int_lt (pos 0) (level_of m))) ms in
      let positive = filter (λ m. int_lt (pos 0) (level_of m)) ms in
      let weight : Placed → ℕ = λ m. total w (member m) in
      five (given (head p)) (flat_map member negative) (given (body p)) (flat_map member zeroth) (flat_map member positive) (total weight negative) (total weight zeroth) (total weight positive) _
      (total-flat_map w member negative) (total-flat_map w member zeroth) (total-flat_map w member positive)
      (total-levels weight ms ∙ total-sorted weight is_on_lower_level (flat_map (λ s. s.members) (shares_in p)))
    where
      five : (a b c d e : List E) (x y z all : ℕ) → total w b ≡ x → total w d ≡ y → total w e ≡ z → x + (y + z) ≡ all → total w (a ++ (b ++ (c ++ (d ++ e)))) ≡ total w a + (total w c + all)
      five a b c d e x y z all of_b of_d of_e sum =
          omega (arith, total-append w a (b ++ (c ++ (d ++ e))), total-append w b (c ++ (d ++ e)), total-append w c (d ++ e), total-append w d e, of_b, of_d, of_e, sum)

-- the weight of the members that trees give, where a node that is no stacking context weighs nothing: a stacking context
-- gives itself, and any other node what those below it give
module _ (w : Placed → ℕ) (none : (m : Placed) → at is_real_context m ≡ false → w m ≡ 0) where
  abbrev pub given_by : List Label → Forest → ℕ
  given_by above f = total w (flat_map (λ s. s.members) (shares_of above f))

  itself : (p : Placed) → total w (if at is_member p then p ∷ [] else []) ≡ w p
  unfolding is_member
  itself p = by_tests (at is_positioned p) (at is_real_context p) (none p)
    where
      by_tests : (a b : Bool) → (b ≡ false → w p ≡ 0) → total w (if a || b then p ∷ [] else []) ≡ w p
      by_tests true b few = omega arith
      by_tests false true few = omega arith
      by_tests false false few = sym (few refl)

  pub given-step : (n : Label) (above : List Label) (below others : Forest) →
      given_by above (Grow n below others) ≡ (w (record { label = n; above = above; below = below }) + (if at is_real_context (record { label = n; above = above; below = below }) then 0 else given_by (n ∷ above) below)) + given_by above others
  given-step n above below others =
      let p : Placed = record { label = n; above = above; below = below } in
      let inner = flat_map (λ s. s.members) (shares_of (n ∷ above) below) in
      omega (
        arith,
        total-append w ((if at is_member p then p ∷ [] else []) ++ (if at is_real_context p then [] else inner)) (flat_map (λ s. s.members) (shares_of above others)),
        total-append w (if at is_member p then p ∷ [] else []) (if at is_real_context p then [] else inner),
        itself p,
        unless (at is_real_context p) inner,
      )
    where
      unless : (b : Bool) (ms : List Placed) → total w (if b then [] else ms) ≡ (if b then 0 else total w ms)
      unless true ms = refl
      unless false ms = refl
