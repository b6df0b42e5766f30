-- Lists whose first elements are changed, and the others not yet, as press chains while what is gone goes
-- from them.
use Rattle.std.proofs.Common.{◌≡◌, ℕ, suc, zero, ◌<◌, ◌+◌, List, [], ◌∷◌, ◌++◌, map, take, drop, length, get_or, set, refl, ap, ◌∙◌, arith}

abbrev pub changed_below : {A : Type 0} → (A → A) → ℕ → List A → List A
changed_below f i xs = map f (take i xs) ++ drop i xs

get_or-changed_below : {A : Type 0} (f : A → A) (xs : List A) (i : ℕ) (d : A) → get_or (changed_below f i xs) i d ≡ get_or xs i d
get_or-changed_below f [] zero d = refl
get_or-changed_below f [] (suc i) d = refl
get_or-changed_below f (x ∷ xs) zero d = refl
get_or-changed_below f (x ∷ xs) (suc i) d = get_or-changed_below f xs i d

set-changed_below : {A : Type 0} (f : A → A) (xs : List A) (i : ℕ) (d : A) → i < length xs
    → set (changed_below f i xs) i (f (get_or xs i d)) ≡ changed_below f (suc i) xs
set-changed_below f [] i d h = absurd (omega arith)
set-changed_below f (x ∷ xs) zero d h = refl
set-changed_below f (x ∷ xs) (suc i) d h = ap (λ ys. f x ∷ ys) (set-changed_below f xs i d (omega arith))

-- one element more
pub changed_more : {A : Type 0} (f : A → A) (xs ys : List A) (i : ℕ) (d y : A) → i < length xs
    → ys ≡ changed_below f i xs → y ≡ f (get_or ys i d) → set ys i y ≡ changed_below f (i + 1) xs
changed_more f xs ys i d y h e here =
    let next : suc i ≡ i + 1 = omega arith in
    let same : get_or ys i d ≡ get_or xs i d = ap (λ l. get_or l i d) e ∙ get_or-changed_below f xs i d in
    ap (λ l. set l i y) e ∙ ap (λ z. set (changed_below f i xs) i z) (here ∙ ap f same)
    ∙ set-changed_below f xs i d h ∙ ap (λ n. changed_below f n xs) next
