-- How the living members of a chain grow with the chain.
use Rattle.std.proofs.Common.{◌≡◌, ℕ, zero, suc, ◌<◌, Bool, true, false, cond, List, [], ◌∷◌, ◌++◌, length, take, get_or, refl, ap, arith}
use Rattle.mouse_events.specs.Chain.{living}

-- one more member, with its flag
pub living-more : (chain : List ℕ) (alive : List Bool) (j : ℕ) (d : Bool) → j < length chain → length alive ≡ length chain
    → living (take (suc j) chain) (take (suc j) alive)
    ≡ living (take j chain) (take j alive) ++ cond (get_or alive j d) (get_or chain j 0 ∷ []) []
living-more [] alive j d h e = absurd (omega arith)
living-more (y ∷ ys) [] j d h e = absurd (omega arith)
living-more (y ∷ ys) (true ∷ bs) zero d h e = refl
living-more (y ∷ ys) (false ∷ bs) zero d h e = refl
living-more (y ∷ ys) (true ∷ bs) (suc j) d h e = ap (λ zs. y ∷ zs) (living-more ys bs j d (omega arith) (omega arith))
living-more (y ∷ ys) (false ∷ bs) (suc j) d h e = living-more ys bs j d (omega arith) (omega arith)
