-- The limits of the numbers of a style (own). Lengths are in units of 1/64 px, the width of a stroke in fine units of 1/4096 px.
use Rattle.std.specs.Prelude.{ℕ, ◌≤◌, ◌^◌, ℤ, pos, neg_ℤ, ◌≤ℤ◌, unsigned_abs, length, All, IfSome}
use Rattle.computed_style.specs.declared.function.Function.{Function}
use Rattle.computed_style.specs.declared.function.Function.TheVariants.{Matrix, Translate, Scale, Quarter}
use Rattle.computed_style.specs.declared.style.Style.{Style}

-- from - 2 ^ bits to 2 ^ bits
abbrev pub IsWithin : ℕ → ℤ → Type 0
IsWithin bits x = (neg_ℤ (pos (2 ^ bits)) ≤ℤ x) × (x ≤ℤ pos (2 ^ bits))

-- from 0 to 2 ^ bits
abbrev pub IsSide : ℕ → ℤ → Type 0
IsSide bits x = (pos 0 ≤ℤ x) × (x ≤ℤ pos (2 ^ bits))

-- a denominator is from 1 to 2^30
abbrev pub IsDenominator : ℤ → Type 0
IsDenominator q = (pos 1 ≤ℤ q) × (q ≤ℤ pos (2 ^ 30))

-- two numbers from - 2 ^ bits to 2 ^ bits
pub record AreWithin (bits : ℕ) (x y : ℤ) : Type 0 where
  pub first : IsWithin bits x
  pub second : IsWithin bits y

-- the numbers of a matrix but for those of its translation are within 2^30
pub record IsLinearPartInRange (a b c d : ℤ) : Type 0 where
  pub across : AreWithin 30 a b
  pub down : AreWithin 30 c d

-- those of its translation are within 2^40
pub record IsTranslationInRange (e f q : ℤ) : Type 0 where
  pub translation : AreWithin 40 e f
  pub denominator : IsDenominator q

-- the numbers of a matrix are within their limits
pub record IsMatrixInRange (a b c d e f q : ℤ) : Type 0 where
  pub linear : IsLinearPartInRange a b c d
  pub moved : IsTranslationInRange e f q

-- the numbers of a scale are within 2^30
pub record IsScaleInRange (x y q : ℤ) : Type 0 where
  pub factors : AreWithin 30 x y
  pub denominator : IsDenominator q

-- a function of a transform within its limits
abbrev pub IsFunctionInRange : Function → Type 0
IsFunctionInRange (Matrix a b c d e f q) = IsMatrixInRange a b c d e f q
IsFunctionInRange (Translate x y) = AreWithin 26 x y
IsFunctionInRange (Scale x y q) = IsScaleInRange x y q
IsFunctionInRange (Quarter turns) = turns ≤ 3

-- the numbers of a style are within their limits
pub record IsStyleInRange (s : Style) : Type 0 where
  pub opacity : s.opacity ≤ 1000
  pub function_count : length s.transform ≤ 16
  pub functions : All IsFunctionInRange s.transform
  pub origin : IfSome s.origin (λ origin. IsWithin 26 origin.0 × IsWithin 26 origin.1)
  pub border : All (IsSide 20) s.border
  pub radii : All (IsSide 20) s.radii
  pub stroke_width : IfSome s.stroke_width (IsSide 26)
