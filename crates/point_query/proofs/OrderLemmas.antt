-- Numbers that are ordered by a list, topmost first: what of them passes a test is what of the list does, the other way round.
use Rattle.std.proofs.Common.{◌≡◌, ℕ, zero, suc, ◌+◌, ◌<◌, ◌==◌, nat_lt, List, [], ◌∷◌, ◌++◌, reverse, length, get_or, Bool, true, false, cond, if◌then◌else◌, refl, sym, ap, subst, ◌∙◌, arith}
use Rattle.std.specs.Prelude.{◌&&◌, ◌||◌}
use Rattle.std.specs.List.{filter, AllByRecursion}
use Rattle.std.specs.List.Sorted.{IsSortedBy}
use Rattle.std.proofs.lemmas.Bool.{false≢true}
use Rattle.std.proofs.lemmas.Bool.Decides.{nat_tests}
use Rattle.std.proofs.lemmas.List.{reverse-append}
use Rattle.std.proofs.lemmas.List.Elements.{recursion_from_All}
use Rattle.std.proofs.lemmas.List.Sorted.{sorted_far, IsPermutation-reverse, list_any-IsPermutation}
use Rattle.paint_order.specs.Order.{is_member}
use Rattle.paint_order.proofs.FlatLemmas.{or_first, or_second}
use Rattle.point_query.specs.Topmost.{place_in, lies_above, StandOnce}
use Rattle.point_query.proofs.TopmostLemmas.{above-order, once-tail, once-head}

-- the first of a list is a member
member-first : (x : ℕ) (xs : List ℕ) → is_member x (x ∷ xs) ≡ true
member-first x xs = or_first (x == x) (is_member x xs) (grind (arith, nat_tests))

pub member-at : (xs : List ℕ) (k d : ℕ) → k < length xs → is_member (get_or xs k d) xs ≡ true
member-at [] k d within = absurd (omega arith)
member-at (x ∷ xs) zero d within = member-first x xs
member-at (x ∷ xs) (suc k) d within = or_second (x == get_or xs k d) (is_member (get_or xs k d) xs) (member-at xs k d (omega arith))

pub member-filter : (p : ℕ → Bool) (x : ℕ) (zs : List ℕ) → is_member x (filter p zs) ≡ (is_member x zs && p x)
member-filter p x [] = refl
member-filter p x (z ∷ zs) = by_tests (p z) (z == x) refl refl (member-filter p x zs)
  where
    by_tests : (a b : Bool) → p z ≡ a → (z == x) ≡ b → is_member x (filter p zs) ≡ (is_member x zs && p x) → is_member x (cond a (z ∷ filter p zs) (filter p zs)) ≡ ((b || is_member x zs) && p x)
    by_tests true true is is' rest =
        let same : z ≡ x = grind (arith, nat_tests) in
        or_first (z == x) (is_member x (filter p zs)) is' ∙ sym (ap p (sym same) ∙ is)
    by_tests true false is is' rest = ap (λ (b : Bool). b || is_member x (filter p zs)) is' ∙ rest
    by_tests false true is is' rest =
        let same : z ≡ x = grind (arith, nat_tests) in
        let no : p x ≡ false = ap p (sym same) ∙ is in
        rest ∙ rw no (none (is_member x zs))
      where
        none : (b : Bool) → (b && false) ≡ false
        none true = refl
        none false = refl
    by_tests false false is is' rest = rest

-- two members of a list with one place are the same
place-same : (xs : List ℕ) (i j : ℕ) → is_member i xs ≡ true → is_member j xs ≡ true → place_in xs i ≡ place_in xs j → i ≡ j
place-same [] i j here there same = absurd (false≢true here)
place-same (x ∷ xs) i j here there same = by_tests (place-same xs i j) (x == i) (x == j) refl refl here there same
  where
    by_tests : (is_member i xs ≡ true → is_member j xs ≡ true → place_in xs i ≡ place_in xs j → i ≡ j) → (a b : Bool) → (x == i) ≡ a → (x == j) ≡ b → (a || is_member i xs) ≡ true → (b || is_member j xs) ≡ true →
        (if a then 0 else place_in xs i + 1) ≡ (if b then 0 else place_in xs j + 1) → i ≡ j
    by_tests rest true true is is' m m' e = grind (arith, nat_tests)
    by_tests rest true false is is' m m' e = absurd (omega (arith, e))
    by_tests rest false true is is' m m' e = absurd (omega (arith, e))
    by_tests rest false false is is' m m' e = rest m m' (omega (arith, e))

-- the keys of numbers fall
module _ (key : ℕ → ℕ) where
  abbrev Below : ℕ → List ℕ → Type 0
  Below k zs = AllByRecursion (λ y. key y < k) zs

  abbrev Falls : List ℕ → Type 0
  Falls [] = Unit {0}
  Falls (z ∷ zs) = Below (key z) zs × Falls zs

  member-below : (x k : ℕ) (zs : List ℕ) → Below k zs → is_member x zs ≡ true → key x < k
  member-below x k [] all there = absurd (false≢true there)
  member-below x k (y ∷ zs) all there = by_test (member-below x k zs all.1) (y == x) refl there
    where
      by_test : (is_member x zs ≡ true → key x < k) → (b : Bool) → (y == x) ≡ b → (b || is_member x zs) ≡ true → key x < k
      by_test rest true is m = let same : y ≡ x = grind (arith, nat_tests) in subst (λ n. key n < k) same all.0
      by_test rest false is m = rest m

  none-below : (x : ℕ) (zs : List ℕ) → Below (key x) zs → is_member x zs ≡ false
  none-below x zs all = by_test (is_member x zs) refl
    where
      by_test : (b : Bool) → is_member x zs ≡ b → b ≡ false
      by_test true is = absurd (omega (arith, member-below x (key x) zs all is))
      by_test false is = refl

  -- there is one such list with the same members
  falls-same : (cs ds : List ℕ) → Falls cs → Falls ds → ((x : ℕ) → is_member x cs ≡ is_member x ds) → cs ≡ ds
  falls-same [] [] fall fall' same = refl
  falls-same [] (b ∷ ds) fall fall' same = absurd (false≢true (same b ∙ member-first b ds))
  falls-same (a ∷ cs) [] fall fall' same = absurd (false≢true (sym (same a) ∙ member-first a cs))
  falls-same (a ∷ cs) (b ∷ ds) fall fall' same = by_test (falls-same cs ds fall.1 fall'.1) (a == b) refl
    where
      tails : a ≡ b → (x : ℕ) → is_member x cs ≡ is_member x ds
      tails e x = by_member (a == x) refl (same x)
        where
          by_member : (t : Bool) → (a == x) ≡ t → is_member x (a ∷ cs) ≡ is_member x (b ∷ ds) → is_member x cs ≡ is_member x ds
          by_member true is both =
              let here : a ≡ x = grind (arith, nat_tests) in
              ap (λ (n : ℕ). is_member n cs) (sym here) ∙ none-below a cs fall.0 ∙ sym (ap (λ (n : ℕ). is_member n ds) (sym here ∙ e) ∙ none-below b ds fall'.0)
          by_member false is both =
              let is' : (b == x) ≡ false = ap (λ (n : ℕ). n == x) (sym e) ∙ is in
              ap (λ (t : Bool). t || is_member x cs) (sym is) ∙ both ∙ ap (λ (t : Bool). t || is_member x ds) is'

      by_test : (((x : ℕ) → is_member x cs ≡ is_member x ds) → cs ≡ ds) → (t : Bool) → (a == b) ≡ t → a ∷ cs ≡ b ∷ ds
      by_test rest true is = let e : a ≡ b = grind (arith, nat_tests) in ap (λ (n : ℕ). n ∷ cs) e ∙ ap (λ (ns : List ℕ). b ∷ ns) (rest (tails e))
      by_test rest false is =
          let is' : (b == a) ≡ false = grind (arith, nat_tests) in
          let later : is_member a ds ≡ true = ap (λ (t : Bool). t || is_member a ds) (sym is') ∙ sym (same a) ∙ member-first a cs in
          let later' : is_member b cs ≡ true = ap (λ (t : Bool). t || is_member b cs) (sym is) ∙ same b ∙ member-first b ds in
          absurd (omega (arith, member-below a (key b) ds fall'.0 later, member-below b (key a) cs fall.0 later'))

  below-filter : (p : ℕ → Bool) (k : ℕ) (zs : List ℕ) → Below k zs → Below k (filter p zs)
  below-filter p k [] all = tt
  below-filter p k (z ∷ zs) all = by_test (below-filter p k zs all.1) (p z)
    where
      by_test : Below k (filter p zs) → (b : Bool) → Below k (cond b (z ∷ filter p zs) (filter p zs))
      by_test rest true = (all.0, rest)
      by_test rest false = rest

  falls-filter : (p : ℕ → Bool) (zs : List ℕ) → Falls zs → Falls (filter p zs)
  falls-filter p [] fall = tt
  falls-filter p (z ∷ zs) fall = by_test (falls-filter p zs fall.1) (p z)
    where
      by_test : Falls (filter p zs) → (b : Bool) → Falls (cond b (z ∷ filter p zs) (filter p zs))
      by_test rest true = (below-filter p (key z) zs fall.0, rest)
      by_test rest false = rest

  below-more : (k x : ℕ) (zs : List ℕ) → Below k zs → key x < k → Below k (zs ++ x ∷ [])
  below-more k x [] all less = (less, tt)
  below-more k x (z ∷ zs) all less = (all.0, below-more k x zs all.1 less)

  -- a lower one comes last
  falls-more : (x : ℕ) (zs : List ℕ) → Falls zs → AllByRecursion (λ y. key x < key y) zs → Falls (zs ++ x ∷ [])
  falls-more x [] fall above = (tt, tt)
  falls-more x (z ∷ zs) fall above = (below-more (key z) x zs fall.0 above.0, falls-more x zs fall.1 above.1)

-- keys that are all one more fall too
below-raised : (key key' : ℕ → ℕ) (k : ℕ) (zs : List ℕ) → AllByRecursion (λ y. key' y ≡ key y + 1) zs → Below key k zs → Below key' (k + 1) zs
below-raised key key' k [] raised all = tt
below-raised key key' k (z ∷ zs) raised all = (omega (arith, raised.0, all.0), below-raised key key' k zs raised.1 all.1)

falls-raised : (key key' : ℕ → ℕ) (zs : List ℕ) → AllByRecursion (λ y. key' y ≡ key y + 1) zs → Falls key zs → Falls key' zs
falls-raised key key' [] raised fall = tt
falls-raised key key' (z ∷ zs) raised fall = (subst (λ k. Below key' k zs) (sym raised.0) (below-raised key key' (key z) zs raised.1 fall.0), falls-raised key key' zs raised.1 fall.1)

member-reverse : (x : ℕ) (xs : List ℕ) → is_member x (reverse xs) ≡ is_member x xs
member-reverse x xs = sym (list_any-IsPermutation (λ y. y == x) xs (reverse xs) (IsPermutation-reverse xs))

-- the places fall in the list the other way round
falls-reverse : (xs : List ℕ) → StandOnce xs → Falls (place_in xs) (reverse xs)
falls-reverse [] once = tt
falls-reverse (x ∷ xs) once =
    subst (Falls (place_in (x ∷ xs))) (sym (reverse-append (x ∷ []) xs))
    (falls-more (place_in (x ∷ xs)) x (reverse xs)
    (falls-raised (place_in xs) (place_in (x ∷ xs)) (reverse xs) raised (falls-reverse xs (once-tail x xs once)))
    above)
  where
    apart : (y : ℕ) → is_member y (reverse xs) ≡ true → (x == y) ≡ false
    apart y there = by_test (x == y) refl
      where
        by_test : (b : Bool) → (x == y) ≡ b → b ≡ false
        by_test true is = let same : x ≡ y = grind (arith, nat_tests) in absurd (false≢true (sym (once-head x xs once) ∙ ap (λ (n : ℕ). is_member n xs) same ∙ sym (member-reverse y xs) ∙ there))
        by_test false is = refl

    raised : AllByRecursion (λ y. place_in (x ∷ xs) y ≡ place_in xs y + 1) (reverse xs)
    raised = recursion_from_All (λ y. place_in (x ∷ xs) y ≡ place_in xs y + 1) (reverse xs)
        (λ k d within. ap (λ (b : Bool). if b then 0 else place_in xs (get_or (reverse xs) k d) + 1) (apart (get_or (reverse xs) k d) (member-at (reverse xs) k d within)))

    above : AllByRecursion (λ y. place_in (x ∷ xs) x < place_in (x ∷ xs) y) (reverse xs)
    above = recursion_from_All (λ y. place_in (x ∷ xs) x < place_in (x ∷ xs) y) (reverse xs)
        (λ k d within.
        let y = get_or (reverse xs) k d in
        let is : (x == y) ≡ false = apart y (member-at (reverse xs) k d within) in
        let is' : (x == x) ≡ true = grind (arith, nat_tests) in
        rw (is, is') (omega arith))

-- and in numbers of the list that are ordered by it
falls-sorted : (xs zs : List ℕ) → StandOnce zs → ((x : ℕ) → is_member x zs ≡ true → is_member x xs ≡ true) → IsSortedBy (lies_above xs) zs → Falls (place_in xs) zs
falls-sorted xs [] once within sorted = tt
falls-sorted xs (z ∷ zs) once within sorted = (
  below,
  falls-sorted xs zs (once-tail z zs once) (λ x there. within x (or_second (z == x) (is_member x zs) there)) (λ k d low inside. let next : suc k + 1 ≡ suc (k + 1) = omega arith in subst (λ n. lies_above xs (get_or (z ∷ zs) n d) (get_or zs k d) ≡ false) next (sorted (suc k) d (omega arith) (omega arith))),
)
  where
    below : Below (place_in xs) (place_in xs z) zs
    below = recursion_from_All (λ y. place_in xs y < place_in xs z) zs (λ k d inside.
        let y = get_or zs k d in
        let there : is_member y zs ≡ true = member-at zs k d inside in
        let far : nat_lt (place_in xs z) (place_in xs y) ≡ false = sorted_far (lies_above xs) (above-order xs) (z ∷ zs) sorted 0 (suc k) d (omega arith) (omega arith) in
        by_place y there far)
      where
        by_place : (y : ℕ) → is_member y zs ≡ true → nat_lt (place_in xs z) (place_in xs y) ≡ false → place_in xs y < place_in xs z
        by_place y there far = by_test (place_in xs y == place_in xs z) refl
          where
            by_test : (b : Bool) → (place_in xs y == place_in xs z) ≡ b → place_in xs y < place_in xs z
            by_test true is =
                let e : place_in xs y ≡ place_in xs z = grind (arith, nat_tests) in
                let same : y ≡ z = place-same xs y z (within y (or_second (z == y) (is_member y zs) there)) (within z (member-first z zs)) e in
                absurd (false≢true (sym (once-head z zs once) ∙ ap (λ (n : ℕ). is_member n zs) (sym same) ∙ there))
            by_test false is = grind (arith, nat_tests)

-- the numbers that pass a test, of some that hold all members of a list which do, ordered by it, and each once
pub passed-topmost_first : (p : ℕ → Bool) (xs zs : List ℕ) → StandOnce xs → StandOnce zs → IsSortedBy (lies_above xs) zs →
    ((x : ℕ) → is_member x zs ≡ true → is_member x xs ≡ true) → ((x : ℕ) → is_member x xs ≡ true → p x ≡ true → is_member x zs ≡ true) →
    filter p zs ≡ filter p (reverse xs)
passed-topmost_first p xs zs once once' sorted within all =
    falls-same (place_in xs) (filter p zs) (filter p (reverse xs))
    (falls-filter (place_in xs) p zs (falls-sorted xs zs once' within sorted))
    (falls-filter (place_in xs) p (reverse xs) (falls-reverse xs once))
    (λ x. member-filter p x zs ∙ same x (is_member x zs) (is_member x xs) (p x) refl refl refl ∙ sym (member-filter p x (reverse xs) ∙ ap (λ (b : Bool). b && p x) (member-reverse x xs)))
  where
    same : (x : ℕ) (a b c : Bool) → is_member x zs ≡ a → is_member x xs ≡ b → p x ≡ c → (a && c) ≡ (b && c)
    same x true true c is is' is'' = refl
    same x false false c is is' is'' = refl
    same x true false c is is' is'' = absurd (false≢true (sym is' ∙ within x is))
    same x false true true is is' is'' = absurd (false≢true (sym is ∙ all x is' is''))
    same x false true false is is' is'' = refl
