-- The numbers of transforms and of boxes are as small as the maps ask.
use Rattle.std.proofs.Common.{◌≡◌, ℕ, zero, suc, get_or, ◌^◌, ◌≤◌, List, [], ◌∷◌, ℤ, pos, neg_ℤ, ◌+ℤ◌, ◌≤ℤ◌, arith}
use Rattle.std.specs.Prelude.{All, unsigned_abs}
use Rattle.std.proofs.lemmas.Int.{ints}
use mir.Syntax.{w64}
use mir.Val.{to_z, of_z}
use Rattle.computed_style.specs.declared.function.Function.{Function}
use Rattle.computed_style.specs.declared.function.Function.TheVariants.{Matrix, Translate, Scale, Quarter}
use Rattle.computed_style.specs.Ranges.{IsWithin, IsFunctionInRange, IsSide, IsDenominator as IsDeclaredDenominator}
use Rattle.affine.specs.Function.{IsInRange, IsDenominator}

-- a number between minus and plus another is at most that in size
pub size-within : (most : ℕ) (x : ℤ) → neg_ℤ (pos most) ≤ℤ x → x ≤ℤ pos most → unsigned_abs x ≤ most
size-within most x low high = omega (arith, ints)

denominator : (q : ℤ) → IsDeclaredDenominator q → IsDenominator q
denominator q is = record { positive = omega (arith, ints, is.0); size = omega (arith, ints, is.0, is.1) }

pub function-in_range : (f : Function) → IsFunctionInRange f → IsInRange f
function-in_range (Matrix a b c d e f q) is = (
  record {
    a = size-within (2 ^ 30) a is.linear.across.first.0 is.linear.across.first.1;
    b = size-within (2 ^ 30) b is.linear.across.second.0 is.linear.across.second.1;
    c = size-within (2 ^ 30) c is.linear.down.first.0 is.linear.down.first.1;
    d = size-within (2 ^ 30) d is.linear.down.second.0 is.linear.down.second.1;
    e = size-within (2 ^ 40) e is.moved.translation.first.0 is.moved.translation.first.1;
    f = size-within (2 ^ 40) f is.moved.translation.second.0 is.moved.translation.second.1;
    q = (denominator q is.moved.denominator).size;
  },
  denominator q is.moved.denominator,
)
function-in_range (Translate x y) is = record {
  first = size-within (2 ^ 26) x is.first.0 is.first.1;
  second = size-within (2 ^ 26) y is.second.0 is.second.1;
}
function-in_range (Scale x y q) is = (
  record {
    first = size-within (2 ^ 30) x is.factors.first.0 is.factors.first.1;
    second = size-within (2 ^ 30) y is.factors.second.0 is.factors.second.1;
  },
  denominator q is.denominator,
)
function-in_range (Quarter turns) is = is

-- each of some sides, and 0 beyond them
pub side-at : (sides : List ℤ) (k : ℕ) → All (IsSide 20) sides → IsSide 20 (get_or sides k (pos 0))
side-at [] k all = (omega (arith, ints), omega (arith, ints))
side-at (side ∷ sides) zero all = all 0 (pos 0) (omega arith)
side-at (side ∷ sides) (suc k) all = side-at sides k (λ j d within. all (suc j) d (omega arith))

-- a side fits its type
pub side-fits : (x y : ℤ) → x ≡ y → IsSide 20 y → IsSide 20 (to_z w64 (of_z w64 x))
side-fits x y is side = (omega (arith, ints, side.0, side.1), omega (arith, ints, side.0, side.1))

-- the sum of an edge and a side fits its type
pub sum-fits : (sum x edge y side : ℤ) → sum ≡ to_z w64 (of_z w64 x) +ℤ to_z w64 (of_z w64 y) → x ≡ edge → y ≡ side → IsWithin 26 x → IsSide 20 side → to_z w64 (of_z w64 sum) ≡ edge +ℤ side
sum-fits sum x edge y side sum_is x_is y_is x_range y_range = omega (arith, ints, x_range.0, x_range.1, y_range.0, y_range.1)
