use Rattle.std.specs.Prelude.{ℤ, ◌<ℤ◌, ◌≤ℤ◌, ◌⊎◌}
use Rattle.fractions.specs.declared.rect.Rect.{Rect}

-- the point lies in the half open rectangle: its left and top edges are in it, its right and bottom ones are not
pub record Holds (r : Rect) (x y : ℤ) : Type 0 where
  pub from_left : r.l ≤ℤ x
  pub before_right : x <ℤ r.r
  pub from_top : r.t ≤ℤ y
  pub before_bottom : y <ℤ r.b

-- the right edge isn't right of the left one, or the bottom edge isn't below the top one
abbrev pub IsEmpty : Rect → Type 0
IsEmpty r = (r.r ≤ℤ r.l) ⊎ (r.b ≤ℤ r.t)
