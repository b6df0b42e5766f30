-- Points and the segments between them. Coordinates of a shape are placed within 2^26 either way, and points that are
-- tested lie within 2^28.
use Rattle.std.specs.Prelude.{ℕ, ◌+◌, ◌-◌, ◌*◌, ◌^◌, ◌≤◌, ℤ, ◌+ℤ◌, ◌-ℤ◌, ◌*ℤ◌, unsigned_abs, Option, None, Some, List, [], ◌∷◌, length, slice_get}
use Rattle.poly_shapes.specs.declared.point.Point.{Point}
use Rattle.poly_shapes.specs.declared.segment.Segment.{Segment}

pub record IsPlaced (p : Point) : Type 0 where
  pub across : unsigned_abs p.x ≤ 2 ^ 26
  pub down : unsigned_abs p.y ≤ 2 ^ 26

pub record IsNear (p : Point) : Type 0 where
  pub across : unsigned_abs p.x ≤ 2 ^ 28
  pub down : unsigned_abs p.y ≤ 2 ^ 28

abbrev pub square : ℕ → ℕ
square n = n * n

-- the cross product k of the way along a segment and the way from its start to the point: above 0 on its one side,
-- below 0 on its other side, 0 on its line
abbrev pub across : Segment → (x y : ℤ) → ℤ
across s x y = (s.to.x -ℤ s.from.x) *ℤ (y -ℤ s.from.y) -ℤ (x -ℤ s.from.x) *ℤ (s.to.y -ℤ s.from.y)

-- the dot product t of the same two ways
abbrev pub along : Segment → (x y : ℤ) → ℤ
along s x y = (s.to.x -ℤ s.from.x) *ℤ (x -ℤ s.from.x) +ℤ (s.to.y -ℤ s.from.y) *ℤ (y -ℤ s.from.y)

-- how far apart two coordinates are
abbrev pub distance : ℤ → ℤ → ℕ
distance a b = unsigned_abs (a -ℤ b)

-- the square of its length
abbrev pub square_length : Segment → ℕ
square_length s = square (distance s.to.x s.from.x) + square (distance s.to.y s.from.y)

-- the segments from a point on, through one point after another
abbrev pub path_from : Point → List Point → List Segment
path_from a [] = []
path_from a (b ∷ points) = record { from = a; to = b } ∷ path_from b points

abbrev pub last_point : List Point → Option Point
last_point points = slice_get points (length points - 1)

abbrev pub path_back_from : Option Point → List Point → List Segment
path_back_from None points = []
path_back_from (Some last) points = path_from last points

-- the segments of a closed subpath: one to each point from the point before it, and to the first from the last
abbrev pub ring : List Point → List Segment
ring points = path_back_from (last_point points) points

-- the segments of an open subpath
abbrev pub open_path : List Point → List Segment
open_path [] = []
open_path (p ∷ points) = path_from p points
