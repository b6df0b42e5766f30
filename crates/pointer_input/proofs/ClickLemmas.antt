-- The nearest common ancestor of two chains.
use Rattle.std.proofs.Common.{◌≡◌, ℕ, ◌-◌, Bool, true, false, cond, eqb, ◌||◌, Option, Some, None, List, [], ◌∷◌, ◌++◌, length, reverse, refl, sym, ap, ◌∙◌, arith}
use Rattle.std.specs.List.{list_any, find}
use Rattle.std.specs.Prelude.{slice_get}
use Rattle.std.specs.Option.{option_or}
use Rattle.std.proofs.lemmas.List.{reverse-append}
use Rattle.std.proofs.lemmas.List.Folds.{find-append}
use Rattle.std.proofs.lemmas.Bool.Decides.{nat_tests}
use Rattle.mouse_events.specs.Chain.{target, is_member}
use Rattle.pointer_input.specs.Clicks.{ClicksNearest}

pub either_false : (a b : Bool) → (a || b) ≡ false → (a ≡ false) × (b ≡ false)
either_false true b h = let no : ⊥ = cc in absurd no
either_false false b h = (refl, h)

either_true : (a b : Bool) → b ≡ true → (a || b) ≡ true
either_true true b h = refl
either_true false b h = h

-- deepest first, the last element of a list comes first
find-reverse : (p : ℕ → Bool) (x : ℕ) (xs : List ℕ) → find p (reverse (x ∷ xs)) ≡ option_or (find p (reverse xs)) (cond (p x) (Some x) None)
find-reverse p x xs = ap (find p) (reverse-append (x ∷ []) xs) ∙ find-append p (reverse xs) (x ∷ [])

find_none : (p : ℕ → Bool) (xs : List ℕ) → list_any p xs ≡ false → find p (reverse xs) ≡ None
find_none p [] h = refl
find_none p (x ∷ xs) h =
    let none = either_false (p x) (list_any p xs) h in
    find-reverse p x xs ∙ ap (λ o. option_or o (cond (p x) (Some x) None)) (find_none p xs none.1)
    ∙ ap (λ b. cond {A = Option ℕ} b (Some x) None) none.0

-- the last of a list that isn't empty
abbrev pub last_of : ℕ → List ℕ → ℕ
last_of x [] = x
last_of x (y ∷ ys) = last_of y ys

slice_get-last : (x : ℕ) (xs : List ℕ) → slice_get (x ∷ xs) (length xs) ≡ Some (last_of x xs)
slice_get-last x [] = refl
slice_get-last x (y ∷ ys) = slice_get-last y ys

target-cons : (x : ℕ) (xs : List ℕ) → target (x ∷ xs) ≡ Some (last_of x xs)
target-cons x xs =
    let short : length (x ∷ xs) - 1 ≡ length xs = omega arith in
    ap (λ n. slice_get (x ∷ xs) n) short ∙ slice_get-last x xs

-- each member of a list passes the test
abbrev pub AllOf : (ℕ → Bool) → List ℕ → Type 0
AllOf p [] = Unit {0}
AllOf p (x ∷ xs) = (p x ≡ true) × AllOf p xs

AllOf-mono : (p q : ℕ → Bool) → ((x : ℕ) → p x ≡ true → q x ≡ true) → (xs : List ℕ) → AllOf p xs → AllOf q xs
AllOf-mono p q h [] all = tt
AllOf-mono p q h (x ∷ xs) all = (h x all.0, AllOf-mono p q h xs all.1)

find_last : (p : ℕ → Bool) (x : ℕ) (xs : List ℕ) → AllOf p (x ∷ xs) → find p (reverse (x ∷ xs)) ≡ Some (last_of x xs)
find_last p x [] all = ap (λ b. cond {A = Option ℕ} b (Some x) None) all.0
find_last p x (y ∷ ys) all =
    find-reverse p x (y ∷ ys) ∙ ap (λ o. option_or o (cond (p x) (Some x) None)) (find_last p y ys all.1)

find_target : (p : ℕ → Bool) (xs : List ℕ) → AllOf p xs → find p (reverse xs) ≡ target xs
find_target p [] all = refl
find_target p (x ∷ xs) all = find_last p x xs all ∙ sym (target-cons x xs)

same_true : (x : ℕ) → eqb x x ≡ true
same_true x = grind (arith, nat_tests)

are_members : (xs ys : List ℕ) → AllOf (λ x. is_member x (xs ++ ys)) xs
are_members [] ys = tt
are_members (x ∷ xs) ys = (
  ap (λ b. b || is_member x (xs ++ ys)) (same_true x),
  AllOf-mono (λ z. is_member z (xs ++ ys)) (λ z. is_member z (x ∷ (xs ++ ys)))
      (λ z h. either_true (eqb x z) (is_member z (xs ++ ys)) h) xs (are_members xs ys),
)

pub clicks_nearest : (ancestors pressed released : List ℕ) → ClicksNearest ancestors pressed released
clicks_nearest ancestors pressed released apart =
    let p : ℕ → Bool = λ x. is_member x (ancestors ++ pressed) in
    ap (find p) (reverse-append ancestors released)
    ∙ find-append p (reverse released) (reverse ancestors)
    ∙ ap (λ o. option_or o (find p (reverse ancestors))) (find_none p released apart)
    ∙ find_target p ancestors (are_members ancestors pressed)
