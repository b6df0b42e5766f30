-- CSS Backgrounds and Borders 3, "Overlapping Curves": let f = min(L / S) over the four sides, where
-- L is a side's length and S the sum of the two radii on it. If f < 1, all radii are multiplied by f.
use Rattle.std.specs.Prelude.{ℕ, zero, suc, ◌+◌, ◌*◌, ◌/◌, ◌≤◌, pos, unsigned_abs, nat_lt, if◌then◌else◌}
use Rattle.corner_shapes.specs.declared.radii.Corners.{Corners}
use Rattle.corner_shapes.specs.declared.radii.Radii.{Radii}
use Rattle.corner_shapes.specs.Radii.{top_left, top_right, bottom_right, bottom_left, corners_of}

-- a fraction of natural numbers
pub record Fraction : Type 0 where
  pub over : ℕ
  pub under : ℕ

-- the fraction 1
abbrev pub one : Fraction
one = record { over = 1; under = 1 }

-- the lesser of two fractions
abbrev pub lesser : Fraction → Fraction → Fraction
lesser f g = if nat_lt (g.over * f.under) (f.over * g.under) then g else f

-- L / S for a side, and 1 where the sum is 0
abbrev pub share : ℕ → ℕ → Fraction
share length zero = one
share length (suc n) = record { over = length; under = suc n }

-- S for each side: the sum of the two radii that lie on it
abbrev pub top_sum : Corners → ℕ
top_sum c = unsigned_abs (top_left c).x + unsigned_abs (top_right c).x

abbrev pub right_sum : Corners → ℕ
right_sum c = unsigned_abs (top_right c).y + unsigned_abs (bottom_right c).y

abbrev pub bottom_sum : Corners → ℕ
bottom_sum c = unsigned_abs (bottom_right c).x + unsigned_abs (bottom_left c).x

abbrev pub left_sum : Corners → ℕ
left_sum c = unsigned_abs (bottom_left c).y + unsigned_abs (top_left c).y

-- the factor f: the least of 1 and of L / S over the four sides
unfoldable pub factor : (width height : ℕ) → Corners → Fraction
factor width height given =
    lesser (lesser (lesser (lesser one (share width (top_sum given))) (share height (right_sum given)))
    (share width (bottom_sum given))) (share height (left_sum given))

-- a used radius in fine units: 64 f r, rounded down
abbrev pub used_radius : Fraction → ℕ → ℕ
used_radius f r = 64 * f.over * r / f.under

-- the used radii of one corner
abbrev pub used_radii_of : Fraction → Radii → Radii
used_radii_of f radii =
    record { x = pos (used_radius f (unsigned_abs radii.x)); y = pos (used_radius f (unsigned_abs radii.y)) }

-- the radii of each corner changed alike
abbrev pub each : (Radii → Radii) → Corners → Corners
each f c = corners_of (f (top_left c)) (f (top_right c)) (f (bottom_right c)) (f (bottom_left c))

-- the used radii of a box with these sides
abbrev pub used_corners : (width height : ℕ) → Corners → Corners
used_corners width height given = each (used_radii_of (factor width height given)) given

-- no two curves overlap: on each side the radii take no more than its length
pub record AreApart (width height : ℕ) (corners : Corners) : Type 0 where
  pub top : top_sum corners ≤ width
  pub right : right_sum corners ≤ height
  pub bottom : bottom_sum corners ≤ width
  pub left : left_sum corners ≤ height

-- the same radii in fine units, 64 to a unit
abbrev pub in_fine_units : Corners → Corners
in_fine_units given =
    each (λ radii. record { x = pos (64 * unsigned_abs radii.x); y = pos (64 * unsigned_abs radii.y) }) given
