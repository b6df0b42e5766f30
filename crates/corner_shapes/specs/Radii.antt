-- The radii of a box's corners. CSS Backgrounds and Borders 3, "Curve Radii".
use Rattle.std.specs.Prelude.{ℕ, ℤ, pos, ◌≤ℤ◌, slice_index_or, [], ◌∷◌}
use Rattle.corner_shapes.specs.declared.radii.Corners.{Corners}
use Rattle.corner_shapes.specs.declared.radii.Radii.{Radii}

-- a radius by its place among the eight
abbrev pub radius : Corners → ℕ → ℤ
radius corners k = slice_index_or corners.r k (pos 0)

-- the two radii of each corner: across, and down
abbrev pub top_left : Corners → Radii
top_left corners = record { x = radius corners 0; y = radius corners 1 }

abbrev pub top_right : Corners → Radii
top_right corners = record { x = radius corners 2; y = radius corners 3 }

abbrev pub bottom_right : Corners → Radii
bottom_right corners = record { x = radius corners 4; y = radius corners 5 }

abbrev pub bottom_left : Corners → Radii
bottom_left corners = record { x = radius corners 6; y = radius corners 7 }

-- the corners with these radii
abbrev pub corners_of : (top_left top_right bottom_right bottom_left : Radii) → Corners
corners_of a b c d = record { r = a.x ∷ a.y ∷ b.x ∷ b.y ∷ c.x ∷ c.y ∷ d.x ∷ d.y ∷ [] }

-- the length lies from 0 to the limit
pub record IsLengthWithin (limit : ℕ) (length : ℤ) : Type 0 where
  pub at_least : pos 0 ≤ℤ length
  pub at_most : length ≤ℤ pos limit

-- the two radii of a corner lie from 0 to the limit
pub record AreBothWithin (limit : ℕ) (radii : Radii) : Type 0 where
  pub x : IsLengthWithin limit radii.x
  pub y : IsLengthWithin limit radii.y

-- each of the eight radii lies from 0 to the limit
pub record AreRadiiWithin (limit : ℕ) (corners : Corners) : Type 0 where
  pub top_left : AreBothWithin limit (top_left corners)
  pub top_right : AreBothWithin limit (top_right corners)
  pub bottom_right : AreBothWithin limit (bottom_right corners)
  pub bottom_left : AreBothWithin limit (bottom_left corners)
