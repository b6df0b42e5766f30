-- Products that are none once one of them passes the bound: where none does, they are the products.
use Rattle.std.proofs.Common.{◌≡◌, List, [], ◌∷◌, ◌++◌, Option, Some, None, Bool, true, false, if◌then◌else◌, refl, ap, ◌∙◌}
use Rattle.std.specs.Prelude.{fold, ◌&&◌}
use Rattle.std.specs.List.{list_all}
use Rattle.affine.specs.declared.map.Parts.{Parts}
use Rattle.affine.specs.Map.{product}
use Rattle.spaces.specs.Bound.{is_within_bound, products_after}
use Rattle.std.specs.Option.{option_and_then}
use Rattle.spaces.specs.Checked.{if_within, then_product, checked_products}

-- whether no product after one of these factors passes the bound
abbrev pub all_within : Parts → List Parts → Bool
all_within start factors = list_all is_within_bound (products_after start factors)

-- some factors and then others
pub checked-append : (start : Option Parts) (first others : List Parts) → checked_products start (first ++ others) ≡ checked_products (checked_products start first) others
checked-append start [] others = refl
checked-append start (factor ∷ first) others = checked-append (then_product start factor) first others

-- a factor that is within the bound
pub then-within : (outer : Option Parts) (factor : Parts) → is_within_bound factor ≡ true → then_product outer factor ≡ option_and_then (λ m. if_within (product m factor)) outer
then-within outer factor is = ap (λ b. if b then option_and_then (λ m. if_within (product m factor)) outer else None) is

-- and one that isn't
pub then-beyond : (outer : Option Parts) (factor : Parts) → is_within_bound factor ≡ false → then_product outer factor ≡ None
then-beyond outer factor is = ap (λ b. if b then option_and_then (λ m. if_within (product m factor)) outer else None) is

then-none : (factor : Parts) → then_product None factor ≡ None
then-none factor = by_test (is_within_bound factor) None refl
  where
    by_test : (b : Bool) (o : Option Parts) → o ≡ None → (if b then o else None) ≡ None
    by_test true o is = is
    by_test false o is = refl

checked-none : (factors : List Parts) → checked_products None factors ≡ None
checked-none [] = refl
checked-none (factor ∷ factors) = ap (λ o. checked_products o factors) (then-none factor) ∙ checked-none factors

-- the products, where none passes the bound
pub checked-fold : (start : Parts) (factors : List Parts) → checked_products (Some start) factors ≡ (if all_within start factors then Some (fold product start factors) else None)
checked-fold start [] = refl
checked-fold start (factor ∷ factors) = by_tests (checked-fold (product start factor) factors) (is_within_bound factor) (is_within_bound (product start factor))
  where
    by_tests : checked_products (Some (product start factor)) factors ≡ (if all_within (product start factor) factors then Some (fold product (product start factor) factors) else None) →
        (a b : Bool) →
        checked_products (if a then (if b then Some (product start factor) else None) else None) factors
        ≡ (if a && (b && all_within (product start factor) factors) then Some (fold product (product start factor) factors) else None)
    by_tests deeper true true = deeper
    by_tests deeper true false = checked-none factors
    by_tests deeper false b = checked-none factors

-- one factor, some others, and one more
pub checked-between : (start : Option Parts) (first last : Parts) (factors : List Parts) → checked_products start (first ∷ (factors ++ last ∷ [])) ≡ then_product (checked_products (then_product start first) factors) last
checked-between start first last factors = checked-append (then_product start first) factors (last ∷ [])
