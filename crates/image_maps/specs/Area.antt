-- HTML, "Image map processing model": the shape that an area is made of by its `shape` attribute and by the list of
-- numbers of its `coords` attribute. The numbers are whole units here, and points are counted in fine units, 64 to a unit,
-- from the padding corner of the image.
use Rattle.std.specs.Prelude.{ℕ, ◌+◌, ◌*◌, ◌%◌, ◌^◌, ◌≤◌, ◌==◌, ℤ, pos, ◌*ℤ◌, ◌≤ℤ◌, ◌<ℤ◌, int_le, int_lt, unsigned_abs, nat_le, Bool, true, ◌&&◌, if◌then◌else◌, List, [], ◌∷◌, length, slice_index_or}
use Rattle.std.specs.Int.{int_min, int_max}
use Rattle.poly_shapes.specs.declared.point.Point.{Point}
use Rattle.poly_shapes.specs.declared.point.FillRule.TheVariants.{EvenOdd}
use Rattle.poly_shapes.specs.Segments.{square, distance, ring}
use Rattle.poly_shapes.specs.Outline.{Outline}
use Rattle.poly_shapes.specs.Fill.{crossings, Fills}
use Rattle.image_maps.specs.declared.area.AreaKind.{AreaKind}
use Rattle.image_maps.specs.declared.area.AreaKind.TheVariants.{Rect, Circle, Poly, Default}

pub record Area : Type 0 where
  pub kind : AreaKind
  pub numbers : List ℤ

-- a number of an area: within 2^20 units
pub record IsNumber (n : ℤ) : Type 0 where
  pub within : unsigned_abs n ≤ 2 ^ 20

-- units as fine units
abbrev pub fine : ℤ → ℤ
fine units = pos 64 *ℤ units

-- a number by its place
abbrev pub number : List ℤ → ℕ → ℤ
number numbers k = slice_index_or numbers k (pos 0)

-- between two ends that may stand in either order: the lesser is in, the greater isn't
pub record IsBetween (one other at : ℤ) : Type 0 where
  pub from : fine (int_min one other) ≤ℤ at
  pub before : at <ℤ fine (int_max one other)

-- the rectangle state: at least four numbers, of which the first four are left, top, right and bottom, and two ends in the
-- wrong order are swapped
pub record InRect (numbers : List ℤ) (x y : ℤ) : Type 0 where
  pub enough : 4 ≤ length numbers
  pub across : IsBetween (number numbers 0) (number numbers 2) x
  pub down : IsBetween (number numbers 1) (number numbers 3) y

-- the circle state: at least three numbers, of which the first three are the centre and the radius; without a positive
-- radius there is no shape
pub record InCircle (numbers : List ℤ) (x y : ℤ) : Type 0 where
  pub enough : 3 ≤ length numbers
  pub positive : pos 0 <ℤ number numbers 2
  pub within :
      square (distance x (fine (number numbers 0))) + square (distance y (fine (number numbers 1)))
      ≤ square (64 * unsigned_abs (number numbers 2))

-- the point of two numbers
abbrev pub corner : (x y : ℤ) → Point
corner x y = record { x = fine x; y = fine y }

-- numbers in twos, as points; an odd last number is dropped
abbrev pub in_twos : List ℤ → List Point
in_twos [] = []
in_twos (x ∷ []) = []
in_twos (x ∷ y ∷ numbers) = corner x y ∷ in_twos numbers

-- the polygon state: at least six numbers; the polygon is closed, and the even-odd rule says what is inside
pub record InPoly (numbers : List ℤ) (x y : ℤ) : Type 0 where
  pub enough : 6 ≤ length numbers
  pub inside : Fills EvenOdd (ring (in_twos numbers)) x y

-- the points that an area of a kind covers; the default state covers the whole image
abbrev pub CoversBy : AreaKind → List ℤ → (x y : ℤ) → Type 0
CoversBy Rect numbers x y = InRect numbers x y
CoversBy Circle numbers x y = InCircle numbers x y
CoversBy Poly numbers x y = InPoly numbers x y
CoversBy Default numbers x y = Unit {0}

abbrev pub Covers : Area → (x y : ℤ) → Type 0
Covers area x y = CoversBy area.kind area.numbers x y

-- the corners of an area: those of a polygon of at least six numbers, and none for every other area
abbrev pub corners : AreaKind → List ℤ → List Point
corners Rect numbers = []
corners Circle numbers = []
corners Poly numbers = if nat_le 6 (length numbers) then in_twos numbers else []
corners Default numbers = []

abbrev pub vertices : Area → ℕ
vertices area = length (corners area.kind area.numbers)

-- the corners as one closed subpath
abbrev pub ring_of : List Point → Outline
ring_of points = record { points = points; subs = record { first = 0; count = length points; closed = true } ∷ [] }

abbrev pub outline_of : AreaKind → List ℤ → Outline
outline_of kind numbers = ring_of (corners kind numbers)

-- ---- the same as tests, for definitions that choose by what an area covers

abbrev pub is_between : (one other at : ℤ) → Bool
is_between one other at = int_le (fine (int_min one other)) at && int_lt at (fine (int_max one other))

abbrev pub is_in_rect : List ℤ → (x y : ℤ) → Bool
is_in_rect numbers x y =
    nat_le 4 (length numbers) && (is_between (number numbers 0) (number numbers 2) x && is_between (number numbers 1) (number numbers 3) y)

abbrev pub is_in_circle : List ℤ → (x y : ℤ) → Bool
is_in_circle numbers x y =
    nat_le 3 (length numbers)
    && (int_lt (pos 0) (number numbers 2)
    && nat_le (square (distance x (fine (number numbers 0))) + square (distance y (fine (number numbers 1)))) (square (64 * unsigned_abs (number numbers 2))))

abbrev pub is_in_poly : List ℤ → (x y : ℤ) → Bool
is_in_poly numbers x y = nat_le 6 (length numbers) && (crossings (ring (in_twos numbers)) x y % 2 == 1)

-- whether an area covers a point
abbrev pub is_covered_by : AreaKind → List ℤ → (x y : ℤ) → Bool
is_covered_by Rect numbers x y = is_in_rect numbers x y
is_covered_by Circle numbers x y = is_in_circle numbers x y
is_covered_by Poly numbers x y = is_in_poly numbers x y
is_covered_by Default numbers x y = true

abbrev pub covers_point : Area → (x y : ℤ) → Bool
covers_point area x y = is_covered_by area.kind area.numbers x y
