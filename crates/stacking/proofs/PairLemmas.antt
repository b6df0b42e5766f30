-- Two lists whose elements are pairwise related, as they go through the words that make lists.
use Rattle.std.proofs.Common.{◌≡◌, List, [], ◌∷◌, ◌++◌, Bool, true, false, cond, refl, sym, ap, ◌∙◌}
use Rattle.std.specs.Prelude.{if◌then◌else◌}
use Rattle.std.specs.List.{filter, flat_map}
use Rattle.std.proofs.lemmas.Bool.{false≢true}
use Rattle.stacking.specs.Sorting.{put_in_order, sorted_by}

-- the lists are as long as one another, and what stands at the same place is related
abbrev pub EachPair : {X Y : Type 0} → (X → Y → Type 0) → List X → List Y → Type 0
EachPair R [] [] = Unit {0}
EachPair R [] (y ∷ ys) = ⊥
EachPair R (x ∷ xs) [] = ⊥
EachPair R (x ∷ xs) (y ∷ ys) = R x y × EachPair R xs ys

pub pairs-append : {X Y : Type 0} (R : X → Y → Type 0) (xs xs' : List X) (ys ys' : List Y) → EachPair R xs ys → EachPair R xs' ys' → EachPair R (xs ++ xs') (ys ++ ys')
pairs-append R [] xs' [] ys' all all' = all'
pairs-append R [] xs' (y ∷ ys) ys' all all' = absurd all
pairs-append R (x ∷ xs) xs' [] ys' all all' = absurd all
pairs-append R (x ∷ xs) xs' (y ∷ ys) ys' all all' = (all.0, pairs-append R xs xs' ys ys' all.1 all')

module _ {X Y : Type 0} (R : X → Y → Type 0) where
  pub pairs-if : (b c : Bool) → b ≡ c → (xs xs' : List X) (ys ys' : List Y) → (b ≡ true → EachPair R xs ys) → (b ≡ false → EachPair R xs' ys') → EachPair R (if b then xs else xs') (if c then ys else ys')
  pairs-if true true is xs xs' ys ys' so not_so = so refl
  pairs-if true false is xs xs' ys ys' so not_so = absurd (false≢true (sym is))
  pairs-if false true is xs xs' ys ys' so not_so = absurd (false≢true is)
  pairs-if false false is xs xs' ys ys' so not_so = not_so refl

  -- those that pass a test
  pub pairs-filter : (S : X → Y → Type 0) (t : X → Bool) (u : Y → Bool) → ((x : X) (y : Y) → R x y → t x ≡ u y) → ((x : X) (y : Y) → R x y → t x ≡ true → S x y) →
      (xs : List X) (ys : List Y) → EachPair R xs ys → EachPair S (filter t xs) (filter u ys)
  pairs-filter S t u same more [] [] all = tt
  pairs-filter S t u same more [] (y ∷ ys) all = absurd all
  pairs-filter S t u same more (x ∷ xs) [] all = absurd all
  pairs-filter S t u same more (x ∷ xs) (y ∷ ys) all =
      by_test (t x) (u y) refl (same x y all.0) (pairs-filter S t u same more xs ys all.1)
    where
      by_test : (b c : Bool) → t x ≡ b → b ≡ c → EachPair S (filter t xs) (filter u ys) → EachPair S (cond b (x ∷ filter t xs) (filter t xs)) (cond c (y ∷ filter u ys) (filter u ys))
      by_test true true is is' rest = (more x y all.0 is, rest)
      by_test true false is is' rest = absurd (false≢true (sym is'))
      by_test false true is is' rest = absurd (false≢true is')
      by_test false false is is' rest = rest

  -- joined from lists that are the same
  pub pairs-joined : {A : Type 0} (f : X → List A) (g : Y → List A) → ((x : X) (y : Y) → R x y → f x ≡ g y) → (xs : List X) (ys : List Y) → EachPair R xs ys → flat_map f xs ≡ flat_map g ys
  pairs-joined f g same [] [] all = refl
  pairs-joined f g same [] (y ∷ ys) all = absurd all
  pairs-joined f g same (x ∷ xs) [] all = absurd all
  pairs-joined f g same (x ∷ xs) (y ∷ ys) all = ap (λ zs. zs ++ flat_map f xs) (same x y all.0) ∙ ap (λ zs. g y ++ zs) (pairs-joined f g same xs ys all.1)

  -- joined from lists that are pairwise related
  pub pairs-flat_map : {A B : Type 0} (S : A → B → Type 0) (f : X → List A) (g : Y → List B) → ((x : X) (y : Y) → R x y → EachPair S (f x) (g y)) → (xs : List X) (ys : List Y) → EachPair R xs ys → EachPair S (flat_map f xs) (flat_map g ys)
  pairs-flat_map S f g related [] [] all = tt
  pairs-flat_map S f g related [] (y ∷ ys) all = absurd all
  pairs-flat_map S f g related (x ∷ xs) [] all = absurd all
  pairs-flat_map S f g related (x ∷ xs) (y ∷ ys) all = pairs-append S (f x) (flat_map f xs) (g y) (flat_map g ys) (related x y all.0) (pairs-flat_map S f g related xs ys all.1)

  -- sorted by orders that say the same of what is related
  module _ (lt : X → X → Bool) (lt' : Y → Y → Bool) (same : (x x' : X) (y y' : Y) → R x y → R x' y' → lt x x' ≡ lt' y y') where
    pairs-put : (x : X) (y : Y) (xs : List X) (ys : List Y) → R x y → EachPair R xs ys → EachPair R (put_in_order lt x xs) (put_in_order lt' y ys)
    pairs-put x y [] [] one all = (one, tt)
    pairs-put x y [] (y' ∷ ys) one all = absurd all
    pairs-put x y (x' ∷ xs) [] one all = absurd all
    pairs-put x y (x' ∷ xs) (y' ∷ ys) one all =
        pairs-if (lt x' x) (lt' y' y) (same x' x y' y all.0 one) (x' ∷ put_in_order lt x xs) (x ∷ (x' ∷ xs)) (y' ∷ put_in_order lt' y ys) (y ∷ (y' ∷ ys))
        (λ so. (all.0, pairs-put x y xs ys one all.1)) (λ not_so. (one, all))

    pub pairs-sorted : (xs : List X) (ys : List Y) → EachPair R xs ys → EachPair R (sorted_by lt xs) (sorted_by lt' ys)
    pairs-sorted [] [] all = tt
    pairs-sorted [] (y ∷ ys) all = absurd all
    pairs-sorted (x ∷ xs) [] all = absurd all
    pairs-sorted (x ∷ xs) (y ∷ ys) all = pairs-put x y (sorted_by lt xs) (sorted_by lt' ys) all.0 (pairs-sorted xs ys all.1)
