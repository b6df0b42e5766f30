-- The bounds of points: the least closed rectangle that holds them.
use Rattle.std.specs.Prelude.{ℕ, ◌≤◌, unsigned_abs, ℤ, pos, ◌+ℤ◌, ◌-ℤ◌, ◌≤ℤ◌, Option, None, Some, List, [], ◌∷◌, fold}
use Rattle.std.specs.Int.{int_min, int_max}
use Rattle.poly_shapes.specs.declared.point.Point.{Point}
use Rattle.poly_shapes.specs.declared.point.Bounds.{Bounds}

-- the rectangle of one point
abbrev pub around : Point → Bounds
around p = record { l = p.x; t = p.y; r = p.x; b = p.y }

-- the least rectangle that holds this one and the point
abbrev pub widened : Bounds → Point → Bounds
widened bounds p = record {
  l = int_min bounds.l p.x;
  t = int_min bounds.t p.y;
  r = int_max bounds.r p.x;
  b = int_max bounds.b p.y;
}

-- the bounds of points, and none without a point
abbrev pub bounds_of : List Point → Option Bounds
bounds_of [] = None
bounds_of (p ∷ points) = Some (fold widened (around p) points)

-- the rectangle holds the point, on its edges too
pub record Holds (bounds : Bounds) (x y : ℤ) : Type 0 where
  pub left : bounds.l ≤ℤ x
  pub right : x ≤ℤ bounds.r
  pub top : bounds.t ≤ℤ y
  pub bottom : y ≤ℤ bounds.b

-- the one rectangle lies in the other
pub record LiesIn (inner outer : Bounds) : Type 0 where
  pub left : outer.l ≤ℤ inner.l
  pub right : inner.r ≤ℤ outer.r
  pub top : outer.t ≤ℤ inner.t
  pub bottom : inner.b ≤ℤ outer.b

-- each side moved out by a width
abbrev pub moved_out : ℕ → Bounds → Bounds
moved_out width bounds = record {
  l = bounds.l -ℤ pos width;
  t = bounds.t -ℤ pos width;
  r = bounds.r +ℤ pos width;
  b = bounds.b +ℤ pos width;
}

-- each side lies within a distance of 0, either way
pub record AreSidesWithin (limit : ℕ) (bounds : Bounds) : Type 0 where
  pub left : unsigned_abs bounds.l ≤ limit
  pub top : unsigned_abs bounds.t ≤ limit
  pub right : unsigned_abs bounds.r ≤ limit
  pub bottom : unsigned_abs bounds.b ≤ limit

-- so does a point
pub record IsPointWithin (limit : ℕ) (p : Point) : Type 0 where
  pub across : unsigned_abs p.x ≤ limit
  pub down : unsigned_abs p.y ≤ limit
