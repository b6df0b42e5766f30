-- A rectangle as a polygon.
use Rattle.std.specs.Prelude.{true, ℤ, ◌≤ℤ◌, ◌<ℤ◌, [], ◌∷◌}
use Rattle.poly_shapes.specs.declared.point.Point.{Point}
use Rattle.poly_shapes.specs.Outline.{Outline}

abbrev pub point : (x y : ℤ) → Point
point x y = record { x = x; y = y }

-- one closed subpath: the corners top left, top right, bottom right, bottom left
abbrev pub rectangle : (l t r b : ℤ) → Outline
rectangle l t r b = record {
  points = point l t ∷ point r t ∷ point r b ∷ point l b ∷ [];
  subs = record { first = 0; count = 4; closed = true } ∷ [];
}

-- the left and top edges are in, the right and bottom ones aren't
pub record IsInRectangle (l t r b x y : ℤ) : Type 0 where
  pub left : l ≤ℤ x
  pub right : x <ℤ r
  pub top : t ≤ℤ y
  pub bottom : y <ℤ b
