-- A list that is sorted stably is the one that the definition gives: there is no other.
use Rattle.std.proofs.Common.{◌≡◌, ℕ, suc, ◌<◌, ◌≤◌, List, [], ◌∷◌, length, get_or, Bool, true, false, not, ◌&&◌, cond, refl, sym, ap, ◌∙◌, arith}
use Rattle.std.specs.Prelude.{if◌then◌else◌}
use Rattle.std.specs.List.{filter, AllByRecursion}
use Rattle.std.specs.List.Sorted.{IsSortedBy, IsStableBy, ties}
use Rattle.std.specs.Cmp.{IsStrictWeakOrder}
use Rattle.std.proofs.lemmas.Bool.{false≢true}
use Rattle.std.proofs.lemmas.List.Sorted.{sorted_far}
use Rattle.stacking.specs.Sorting.{put_in_order, sorted_by}

module _ {X : Type 0} (lt : X → X → Bool) (o : IsStrictWeakOrder lt) where
  -- none of the elements is below x
  abbrev pub NoneBelow : X → List X → Type 0
  NoneBelow x ys = AllByRecursion (λ y. lt y x ≡ false) ys

  -- none is below one that stands before it
  abbrev pub Ascends : List X → Type 0
  Ascends [] = Unit {0}
  Ascends (x ∷ xs) = NoneBelow x xs × Ascends xs

  itself : (x : X) → lt x x ≡ false
  itself x = by_test (lt x x) refl
    where
      by_test : (b : Bool) → lt x x ≡ b → b ≡ false
      by_test true is = absurd (false≢true (sym (o.one_way x x is) ∙ is))
      by_test false is = refl

  none_below-through : (x y : X) (zs : List X) → lt y x ≡ false → NoneBelow y zs → NoneBelow x zs
  none_below-through x y [] above none = tt
  none_below-through x y (z ∷ zs) above none = (o.chain z y x none.0 above, none_below-through x y zs above none.1)

  -- an element that is put in goes above those that stay before it
  none_below-put : (y x : X) (zs : List X) → lt x y ≡ false → NoneBelow y zs → NoneBelow y (put_in_order lt x zs)
  none_below-put y x [] above none = (above, tt)
  none_below-put y x (z ∷ zs) above none = by_test (none_below-put y x zs above none.1) (lt z x)
    where
      by_test : NoneBelow y (put_in_order lt x zs) → (b : Bool) → NoneBelow y (if b then z ∷ put_in_order lt x zs else x ∷ (z ∷ zs))
      by_test rest true = (none.0, rest)
      by_test rest false = (above, none)

  ascends-put : (x : X) (ys : List X) → Ascends ys → Ascends (put_in_order lt x ys)
  ascends-put x [] up = (tt, tt)
  ascends-put x (y ∷ ys) up = by_test (ascends-put x ys up.1) (lt y x) refl
    where
      by_test : Ascends (put_in_order lt x ys) → (b : Bool) → lt y x ≡ b → Ascends (if b then y ∷ put_in_order lt x ys else x ∷ (y ∷ ys))
      by_test rest true is = (none_below-put y x ys (o.one_way y x is) up.0, rest)
      by_test rest false is = ((is, none_below-through x y ys is up.0), up)

  pub ascends-sorted : (xs : List X) → Ascends (sorted_by lt xs)
  ascends-sorted [] = tt
  ascends-sorted (x ∷ xs) = ascends-put x (sorted_by lt xs) (ascends-sorted xs)

  -- what ties with x doesn't tie with an element below it
  apart : (w x y : X) → lt y x ≡ true → ties lt w x ≡ true → ties lt w y ≡ false
  apart w x y below tie = by_tests (lt w x) (lt x w) (lt w y) (lt y w) refl refl refl refl tie
    where
      by_tests : (a b c d : Bool) → lt w x ≡ a → lt x w ≡ b → lt w y ≡ c → lt y w ≡ d → (not a && not b) ≡ true → (not c && not d) ≡ false
      by_tests true b c d is is' is'' is''' t = absurd (false≢true t)
      by_tests false true c d is is' is'' is''' t = absurd (false≢true t)
      by_tests false false true d is is' is'' is''' t = refl
      by_tests false false false true is is' is'' is''' t = refl
      by_tests false false false false is is' is'' is''' t = absurd (false≢true (sym (o.chain y w x is''' is) ∙ below))

  filter-put : (w x : X) (ys : List X) → filter (ties lt w) (put_in_order lt x ys) ≡ filter (ties lt w) (x ∷ ys)
  filter-put w x [] = refl
  filter-put w x (y ∷ ys) = by_test (filter-put w x ys) (lt y x) refl
    where
      by_ties : (b c : Bool) → ties lt w x ≡ b → ties lt w y ≡ c → (b ≡ true → c ≡ false) → cond c (y ∷ cond b (x ∷ filter (ties lt w) ys) (filter (ties lt w) ys)) (cond b (x ∷ filter (ties lt w) ys) (filter (ties lt w) ys)) ≡ cond b (x ∷ cond c (y ∷ filter (ties lt w) ys) (filter (ties lt w) ys)) (cond c (y ∷ filter (ties lt w) ys) (filter (ties lt w) ys))
      by_ties true true is is' one = absurd (false≢true (sym (one refl)))
      by_ties true false is is' one = refl
      by_ties false c is is' one = refl

      by_test : filter (ties lt w) (put_in_order lt x ys) ≡ filter (ties lt w) (x ∷ ys) → (b : Bool) → lt y x ≡ b → filter (ties lt w) (if b then y ∷ put_in_order lt x ys else x ∷ (y ∷ ys)) ≡ filter (ties lt w) (x ∷ (y ∷ ys))
      by_test rest false is = refl
      by_test rest true is =
          ap (λ fs. cond (ties lt w y) (y ∷ fs) fs) rest
          ∙ by_ties (ties lt w x) (ties lt w y) refl refl (λ tie. apart w x y is tie)

  pub filter-sorted : (w : X) (xs : List X) → filter (ties lt w) (sorted_by lt xs) ≡ filter (ties lt w) xs
  filter-sorted w [] = refl
  filter-sorted w (x ∷ xs) = filter-put w x (sorted_by lt xs) ∙ ap (λ fs. cond (ties lt w x) (x ∷ fs) fs) (filter-sorted w xs)

  -- the first that passes a test is one of the elements
  first_above : (z : X) (xs : List X) (p : X → Bool) (y : X) (rest : List X) → NoneBelow z xs → filter p xs ≡ y ∷ rest → lt y z ≡ false
  first_above z [] p y rest none is = absurd cc
  first_above z (x ∷ xs) p y rest none is = by_test (λ is'. first_above z xs p y rest none.1 is') (p x) is
    where
      by_test : (filter p xs ≡ y ∷ rest → lt y z ≡ false) → (b : Bool) → cond b (x ∷ filter p xs) (filter p xs) ≡ y ∷ rest → lt y z ≡ false
      by_test in_rest true is' = let same : x ≡ y = cc in ap (λ a. lt a z) (sym same) ∙ none.0
      by_test in_rest false is' = in_rest is'

  ties_itself : (x : X) → ties lt x x ≡ true
  ties_itself x = ap (λ b. not b && not b) (itself x)

  pub only_one : (ys zs : List X) → Ascends ys → Ascends zs → ((w : X) → filter (ties lt w) ys ≡ filter (ties lt w) zs) → ys ≡ zs
  only_one [] [] up up' same = refl
  only_one [] (z ∷ zs) up up' same = let is = same z ∙ ap (λ b. cond b (z ∷ filter (ties lt z) zs) (filter (ties lt z) zs)) (ties_itself z) in absurd cc
  only_one (y ∷ ys) [] up up' same = let is = sym (same y) ∙ ap (λ b. cond b (y ∷ filter (ties lt y) ys) (filter (ties lt y) ys)) (ties_itself y) in absurd cc
  only_one (y ∷ ys) (z ∷ zs) up up' same =
      let first_y : filter (ties lt y) (z ∷ zs) ≡ y ∷ filter (ties lt y) ys = sym (same y) ∙ ap (λ b. cond b (y ∷ filter (ties lt y) ys) (filter (ties lt y) ys)) (ties_itself y) in
      let first_z : filter (ties lt z) (y ∷ ys) ≡ z ∷ filter (ties lt z) zs = same z ∙ ap (λ b. cond b (z ∷ filter (ties lt z) zs) (filter (ties lt z) zs)) (ties_itself z) in
      let y_above : lt y z ≡ false = first_above z (z ∷ zs) (ties lt y) y _ (itself z, up'.0) first_y in
      let z_above : lt z y ≡ false = first_above y (y ∷ ys) (ties lt z) z _ (itself y, up.0) first_z in
      let tie : ties lt y z ≡ true = rw (y_above, z_above) refl in
      let heads : z ∷ filter (ties lt y) zs ≡ y ∷ filter (ties lt y) ys = sym (ap (λ b. cond b (z ∷ filter (ties lt y) zs) (filter (ties lt y) zs)) tie) ∙ first_y in
      let head : z ≡ y = cc in
      let tails : ys ≡ zs = only_one ys zs up.1 up'.1 (λ w. by_test w (ties lt w y) (same w ∙ ap (λ x. filter (ties lt w) (x ∷ zs)) head)) in
      ap (λ x. x ∷ ys) (sym head) ∙ ap (λ xs. z ∷ xs) tails
    where
      by_test : (w : X) (b : Bool) → cond b (y ∷ filter (ties lt w) ys) (filter (ties lt w) ys) ≡ cond b (y ∷ filter (ties lt w) zs) (filter (ties lt w) zs) → filter (ties lt w) ys ≡ filter (ties lt w) zs
      by_test w true is = cc
      by_test w false is = is

  -- what std says of a sorted list, by recursion on it
  none_below-far : (x : X) (ys : List X) → ((j : ℕ) (d : X) → j < length ys → lt (get_or ys j d) x ≡ false) → NoneBelow x ys
  none_below-far x [] far = tt
  none_below-far x (y ∷ ys) far = (far 0 y (omega arith), none_below-far x ys (λ j d within. far (suc j) d (omega arith)))

  ascends-from : (ys : List X) → ((i j : ℕ) (d : X) → i ≤ j → j < length ys → lt (get_or ys j d) (get_or ys i d) ≡ false) → Ascends ys
  ascends-from [] far = tt
  ascends-from (y ∷ ys) far = (none_below-far y ys (λ j d within. far 0 (suc j) d (omega arith) (omega arith)), ascends-from ys (λ i j d up within. far (suc i) (suc j) d (omega arith) (omega arith)))

  -- a stable sort gives the list of the definition
  pub sorted_by-is : (xs ys : List X) → IsSortedBy lt ys → IsStableBy lt xs ys → ys ≡ sorted_by lt xs
  sorted_by-is xs ys sorted stable = only_one ys (sorted_by lt xs) (ascends-from ys (sorted_far lt o ys sorted)) (ascends-sorted xs) (λ w. stable w ∙ sym (filter-sorted w xs))
