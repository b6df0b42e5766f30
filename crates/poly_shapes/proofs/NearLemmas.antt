-- Bounds lie as near to the origin as their points, so what is filled or stroked of placed points is near.
use Rattle.std.proofs.Common.{ℕ, ◌^◌, ◌≤◌, ℤ, pos, neg_ℤ, List, [], ◌∷◌, Option, None, Some, IfSome, IsSomeAnd, IsTrue, arith}
use Rattle.std.specs.Prelude.{unsigned_abs}
use Rattle.std.specs.List.{All}
use Rattle.std.proofs.lemmas.Int.{ints}
use Rattle.poly_shapes.specs.declared.point.Point.{Point}
use Rattle.poly_shapes.specs.declared.point.Bounds.{Bounds}
use Rattle.poly_shapes.specs.declared.point.Cap.{Cap}
use Rattle.poly_shapes.specs.declared.point.FillRule.{FillRule}
use Rattle.poly_shapes.specs.Segments.{IsPlaced}
use Rattle.poly_shapes.specs.Outline.{Outline, edges}
use Rattle.poly_shapes.specs.Fill.{Fills}
use Rattle.poly_shapes.specs.Extent.{bounds_of, Holds, LiesIn, moved_out, AreSidesWithin, IsPointWithin}
use Rattle.poly_shapes.specs.Stroke.{strokes, strokes_of}
use Rattle.poly_shapes.proofs.ExtentLemmas.{HoldsPoint, bounds_of-holds, bounds_of-least}
use Rattle.poly_shapes.proofs.ReachLemmas.{and_true}
use Rattle.poly_shapes.proofs.DrawnLemmas.{strokes-in_bounds}
use Rattle.poly_shapes.proofs.OutsideLemmas.{fills-in_bounds}

-- the rectangle of all places so near
abbrev all_within : ℕ → Bounds
all_within limit = record { l = neg_ℤ (pos limit); t = neg_ℤ (pos limit); r = pos limit; b = pos limit }

held-within : (limit : ℕ) (p : Point) → IsPointWithin limit p → HoldsPoint (all_within limit) p
held-within limit p near = record {
  left = omega (arith, ints, near.across);
  right = omega (arith, ints, near.across);
  top = omega (arith, ints, near.down);
  bottom = omega (arith, ints, near.down);
}

sides-within : (limit : ℕ) (p : Point) (b : Bounds) → HoldsPoint b p → LiesIn b (all_within limit) → AreSidesWithin limit b
sides-within limit p b held lies = record {
  left = omega (arith, ints, lies.left, lies.right, held.left, held.right);
  top = omega (arith, ints, lies.top, lies.bottom, held.top, held.bottom);
  right = omega (arith, ints, lies.left, lies.right, held.left, held.right);
  bottom = omega (arith, ints, lies.top, lies.bottom, held.top, held.bottom);
}

pub bounds_of-near : (limit : ℕ) (points : List Point) → All (IsPointWithin limit) points
    → IfSome (bounds_of points) (AreSidesWithin limit)
bounds_of-near limit [] all = tt
bounds_of-near limit (p ∷ points) all =
    sides-within limit p _ (bounds_of-holds (p ∷ points) 0 p (omega arith))
    (bounds_of-least (p ∷ points) (all_within limit) (λ k d h. held-within limit _ (all k d h)))

-- placed points
pub placed-within : (points : List Point) → All IsPlaced points → All (IsPointWithin (2 ^ 26)) points
placed-within points all k d h = let p = all k d h in record { across = p.across; down = p.down }

pub bounds_of-placed : (points : List Point) → All IsPlaced points → IfSome (bounds_of points) (AreSidesWithin (2 ^ 26))
bounds_of-placed points all = bounds_of-near (2 ^ 26) points (placed-within points all)

held-near : (w : ℕ) (found : Option Bounds) (x y : ℤ) → w ≤ 2 ^ 26 → IfSome found (AreSidesWithin (2 ^ 26))
    → IsSomeAnd found (λ b. Holds (moved_out w b) x y) → (unsigned_abs x ≤ 2 ^ 28) × (unsigned_abs y ≤ 2 ^ 28)
held-near w None x y small near held = absurd held
held-near w (Some b) x y small near held = (
  omega (arith, ints, near.left, near.right, held.left, held.right),
  omega (arith, ints, near.top, near.bottom, held.top, held.bottom),
)

-- what the stroke of an outline holds lies within the bounds, moved out by the width
pub strokes-within : (outline : Outline) (w : ℕ) (ends : Cap) (x y : ℤ) → IsTrue (strokes outline w ends x y)
    → IsSomeAnd (bounds_of outline.points) (λ b. Holds (moved_out w b) x y)
strokes-within outline w ends x y e =
    strokes-in_bounds ends w x y outline.points outline.subs (and_true _ (strokes_of ends w x y outline.points outline.subs) e).1

-- a stroke of a width up to 2^26 of placed points holds near points alone
pub stroked-near : (outline : Outline) (w : ℕ) (ends : Cap) (x y : ℤ) → All IsPlaced outline.points → w ≤ 2 ^ 26
    → IsTrue (strokes outline w ends x y) → (unsigned_abs x ≤ 2 ^ 28) × (unsigned_abs y ≤ 2 ^ 28)
stroked-near outline w ends x y placed small e =
    held-near w (bounds_of outline.points) x y small (bounds_of-placed outline.points placed) (strokes-within outline w ends x y e)

moved-by_none : (found : Option Bounds) (x y : ℤ) → IsSomeAnd found (λ b. Holds b x y) → IsSomeAnd found (λ b. Holds (moved_out 0 b) x y)
moved-by_none None x y held = held
moved-by_none (Some b) x y held = record {
  left = omega (arith, ints, held.left);
  right = omega (arith, ints, held.right);
  top = omega (arith, ints, held.top);
  bottom = omega (arith, ints, held.bottom);
}

-- and so does a fill
pub filled-near : (rule : FillRule) (outline : Outline) (x y : ℤ) → All IsPlaced outline.points
    → Fills rule (edges outline) x y → (unsigned_abs x ≤ 2 ^ 28) × (unsigned_abs y ≤ 2 ^ 28)
filled-near rule outline x y placed filled =
    held-near 0 (bounds_of outline.points) x y (omega arith) (bounds_of-placed outline.points placed)
    (moved-by_none (bounds_of outline.points) x y (fills-in_bounds rule outline.points outline.subs x y filled))
