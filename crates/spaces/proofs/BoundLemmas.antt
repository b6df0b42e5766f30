-- The test of the bound is the bound.
use Rattle.std.proofs.Common.{◌≡◌, Option, Some, None, Bool, true, false, IsSome, if◌then◌else◌, refl, sym, ap, ◌∙◌, arith}
use Rattle.std.specs.Prelude.{◌↔◌, IfSome}
use Rattle.std.proofs.lemmas.Bool.{false≢true}
use Rattle.std.proofs.lemmas.Bool.Decides.{nat_tests}
use Rattle.affine.specs.declared.map.Parts.{Parts}
use Rattle.affine.specs.Map.{IsWithinBound}
use Rattle.spaces.specs.Bound.{is_within_bound}
use Rattle.spaces.specs.Checked.{if_within}

-- what is within the bound passes the test, and what isn't fails it
pub test-from : (m : Parts) → IsWithinBound m → is_within_bound m ≡ true
unfolding is_within_bound
test-from m is = grind (arith, nat_tests, is.a, is.b, is.c, is.d, is.e, is.f, is.q)

bound-from : (m : Parts) → is_within_bound m ≡ true → IsWithinBound m
unfolding is_within_bound
bound-from m is = record {
  a = grind (arith, nat_tests);
  b = grind (arith, nat_tests);
  c = grind (arith, nat_tests);
  d = grind (arith, nat_tests);
  e = grind (arith, nat_tests);
  f = grind (arith, nat_tests);
  q = grind (arith, nat_tests);
}

pub test-beyond : (m : Parts) → (IsWithinBound m → ⊥) → is_within_bound m ≡ false
test-beyond m beyond = by_test (is_within_bound m) refl
  where
    by_test : (b : Bool) → is_within_bound m ≡ b → b ≡ false
    by_test true is = absurd (beyond (bound-from m is))
    by_test false is = refl

-- what is there exactly within the bound
pub within-or_none : (o : Option Parts) (m : Parts) → IsSome o ↔ IsWithinBound m → IfSome o (λ k. k ≡ m) → o ≡ if_within m
within-or_none o m bound value = by_test (is_within_bound m) refl o bound value
  where
    by_test : (b : Bool) → is_within_bound m ≡ b → (o : Option Parts) → IsSome o ↔ IsWithinBound m → IfSome o (λ k. k ≡ m) → o ≡ (if b then Some m else None)
    by_test true is None bound' value' = absurd (false≢true (bound'.1 (bound-from m is)))
    by_test true is (Some k) bound' value' = ap (λ (x : Parts). Some x) value'
    by_test false is None bound' value' = refl
    by_test false is (Some k) bound' value' = absurd (false≢true (sym is ∙ test-from m (bound'.0 refl)))
