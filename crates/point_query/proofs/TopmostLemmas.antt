-- The order of items by a forest is that of their places in its flattened list.
use Rattle.std.proofs.Common.{◌≡◌, ℕ, suc, ◌+◌, ◌<◌, ◌≤◌, ◌==◌, nat_lt, List, [], ◌∷◌, Bool, true, false, length, if◌then◌else◌, refl, sym, ap, ◌∙◌, arith}
use Rattle.std.specs.Prelude.{◌&&◌, ◌||◌}
use Rattle.std.specs.Cmp.{IsStrictWeakOrder}
use Rattle.std.proofs.lemmas.Bool.{false≢true, lt-ltb, le-ltb}
use Rattle.std.proofs.lemmas.Bool.Decides.{nat_tests}
use Rattle.std.proofs.lemmas.List.MinMax.{IsStrictWeakOrder-by_number, IsStrictWeakOrder-flip}
use Rattle.box_tree.specs.Planned.{times_in}
use Rattle.paint_order.specs.Order.{is_member, is_earlier}
use Rattle.point_query.specs.Topmost.{place_in, lies_above, StandOnce}

pub above-order : (xs : List ℕ) → IsStrictWeakOrder (lies_above xs)
above-order xs = IsStrictWeakOrder-flip _ (IsStrictWeakOrder-by_number (place_in xs))

-- what isn't in a list has the place past all that are
place-at_most : (xs : List ℕ) (i : ℕ) → place_in xs i ≤ length xs
place-at_most [] i = omega arith
place-at_most (x ∷ xs) i = by_test (place-at_most xs i) (x == i)
  where
    by_test : place_in xs i ≤ length xs → (b : Bool) → (if b then 0 else place_in xs i + 1) ≤ suc (length xs)
    by_test rest true = omega arith
    by_test rest false = omega (arith, rest)

place-member : (xs : List ℕ) (i : ℕ) → is_member i xs ≡ true → place_in xs i < length xs
place-member [] i there = absurd (false≢true there)
place-member (x ∷ xs) i there = by_test (place-member xs i) (x == i) there
  where
    by_test : (is_member i xs ≡ true → place_in xs i < length xs) → (b : Bool) → (b || is_member i xs) ≡ true → (if b then 0 else place_in xs i + 1) < suc (length xs)
    by_test rest true is = omega arith
    by_test rest false is = omega (arith, rest is)

place-none : (xs : List ℕ) (i : ℕ) → is_member i xs ≡ false → place_in xs i ≡ length xs
place-none [] i none = refl
place-none (x ∷ xs) i none = by_test (place-none xs i) (x == i) none
  where
    by_test : (is_member i xs ≡ false → place_in xs i ≡ length xs) → (b : Bool) → (b || is_member i xs) ≡ false → (if b then 0 else place_in xs i + 1) ≡ suc (length xs)
    by_test rest true is = absurd (false≢true (sym is))
    by_test rest false is = omega (arith, rest is)

-- so it lies above them, and nothing lies above it
pub above-none : (xs : List ℕ) (i j : ℕ) → is_member j xs ≡ false → lies_above xs i j ≡ false
above-none xs i j none = let past = place-none xs j none in let most = place-at_most xs i in le-ltb _ _ (omega arith)

pub none-above : (xs : List ℕ) (i j : ℕ) → is_member i xs ≡ false → is_member j xs ≡ true → lies_above xs i j ≡ true
none-above xs i j none there = let past = place-none xs i none in let less = place-member xs j there in lt-ltb _ _ (omega arith)

-- a number that is a member stands there at least once
pub times-member : (i : ℕ) (xs : List ℕ) → is_member i xs ≡ true → 1 ≤ times_in i xs
times-member i [] there = absurd cc
times-member i (x ∷ xs) there = by_test (times-member i xs) (x == i) there
  where
    by_test : (is_member i xs ≡ true → 1 ≤ times_in i xs) → (b : Bool) → (b || is_member i xs) ≡ true → 1 ≤ (if b then 1 else 0) + times_in i xs
    by_test rest true is = omega arith
    by_test rest false is = omega (arith, rest is)

-- and one that stands nowhere is no member, and not earlier than another
times-none : (i : ℕ) (xs : List ℕ) → times_in i xs ≤ 0 → is_member i xs ≡ false
times-none i xs none = by_test (is_member i xs) refl
  where
    by_test : (b : Bool) → is_member i xs ≡ b → b ≡ false
    by_test true is = absurd (omega (arith, times-member i xs is))
    by_test false is = refl

earlier-member : (i j : ℕ) (xs : List ℕ) → is_member i xs ≡ false → is_earlier i j xs ≡ false
earlier-member i j [] none = refl
earlier-member i j (x ∷ xs) none = by_test (earlier-member i j xs) (x == i) none
  where
    by_test : (is_member i xs ≡ false → is_earlier i j xs ≡ false) → (b : Bool) → (b || is_member i xs) ≡ false → ((b && is_member j xs) || is_earlier i j xs) ≡ false
    by_test rest true is = absurd cc
    by_test rest false is = rest is

later-member : (i j : ℕ) (xs : List ℕ) → is_member j xs ≡ false → is_earlier i j xs ≡ false
later-member i j [] none = refl
later-member i j (x ∷ xs) none = by_test (later-member i j xs) (x == j) (x == i) none
  where
    by_test : (is_member j xs ≡ false → is_earlier i j xs ≡ false) → (b c : Bool) → (b || is_member j xs) ≡ false → ((c && is_member j xs) || is_earlier i j xs) ≡ false
    by_test rest true c is = absurd cc
    by_test rest false true is = rw is (rest is)
    by_test rest false false is = rest is

-- the others stand once too
pub once-tail : (x : ℕ) (xs : List ℕ) → StandOnce (x ∷ xs) → StandOnce xs
once-tail x xs once n = omega (arith, once n)

-- and the first is not among them
pub once-head : (x : ℕ) (xs : List ℕ) → StandOnce (x ∷ xs) → is_member x xs ≡ false
once-head x xs once = times-none x xs (let same : (x == x) ≡ true = grind (arith, nat_tests) in let told : (if x == x then 1 else 0) + times_in x xs ≤ 1 = once x in let told' : 1 + times_in x xs ≤ 1 = rw same at told in omega (arith, told'))

-- of two members the one that is earlier has the lesser place
pub earlier-places : (xs : List ℕ) (i j : ℕ) → StandOnce xs → is_member i xs ≡ true → is_member j xs ≡ true → is_earlier i j xs ≡ nat_lt (place_in xs i) (place_in xs j)
earlier-places [] i j once here there = absurd cc
earlier-places (x ∷ xs) i j once here there = by_tests (earlier-places xs i j (once-tail x xs once)) (x == i) (x == j) refl refl here there
  where
    here_not : (k : ℕ) → (x == k) ≡ true → is_member k xs ≡ false
    here_not k is = let same : x ≡ k = grind (arith, nat_tests) in ap (λ (n : ℕ). is_member n xs) (sym same) ∙ once-head x xs once

    by_tests : (is_member i xs ≡ true → is_member j xs ≡ true → is_earlier i j xs ≡ nat_lt (place_in xs i) (place_in xs j)) → (b c : Bool) → (x == i) ≡ b → (x == j) ≡ c → (b || is_member i xs) ≡ true → (c || is_member j xs) ≡ true →
        ((b && is_member j xs) || is_earlier i j xs) ≡ nat_lt (if b then 0 else place_in xs i + 1) (if c then 0 else place_in xs j + 1)
    by_tests rest true true is is' m m' = rw (here_not j is') (earlier-member i j xs (here_not i is))
    by_tests rest true false is is' m m' = rw m' (grind (arith, nat_tests))
    by_tests rest false true is is' m m' = later-member i j xs (here_not j is') ∙ grind (arith, nat_tests)
    by_tests rest false false is is' m m' = rest m m' ∙ grind (arith, nat_tests)
