use Rattle.std.specs.Prelude.{ℕ, ◌^◌, ◌≤◌, ℤ, pos, ◌<ℤ◌, unsigned_abs}
use Rattle.computed_style.specs.declared.function.Function.{Function}
use Rattle.computed_style.specs.declared.function.Function.TheVariants.{Matrix, Translate, Scale, Quarter}
use Rattle.affine.specs.declared.map.Parts.{Parts}
use Rattle.affine.specs.Map.{IsWithin, lowest_terms, translation, scaling, quarter_turns}

-- the map of a transform function: CSS Transforms 1, section 12
abbrev pub function_map : Function → Parts
function_map (Matrix a b c d e f q) = lowest_terms (record { a = a; b = b; c = c; d = d; e = e; f = f; q = q })
function_map (Translate x y) = translation x y (pos 1)
function_map (Scale x y q) = scaling x y q
function_map (Quarter turns) = quarter_turns turns

-- a denominator is from 1 to 2^30
pub record IsDenominator (q : ℤ) : Type 0 where
  pub positive : pos 0 <ℤ q
  pub size : unsigned_abs q ≤ 2 ^ 30

-- the numbers of a matrix are within 2^30, those of its translation within 2^40
abbrev pub IsMatrixInRange : Parts → Type 0
IsMatrixInRange m = IsWithin m (2 ^ 30) (2 ^ 40) × IsDenominator m.q

-- both numbers are within the bound
pub record AreWithin (bound : ℕ) (x y : ℤ) : Type 0 where
  pub first : unsigned_abs x ≤ bound
  pub second : unsigned_abs y ≤ bound

-- the numbers of a transform function are in the ranges of a script
abbrev pub IsInRange : Function → Type 0
IsInRange (Matrix a b c d e f q) = IsMatrixInRange (record { a = a; b = b; c = c; d = d; e = e; f = f; q = q })
IsInRange (Translate x y) = AreWithin (2 ^ 26) x y
IsInRange (Scale x y q) = AreWithin (2 ^ 30) x y × IsDenominator q
IsInRange (Quarter turns) = turns ≤ 3
