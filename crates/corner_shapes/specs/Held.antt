-- The points that a rounded box holds, as a test: the same as `InRounded` of `Curve.antt`, for definitions that are tests.
use Rattle.std.specs.Prelude.{◌*◌, ◌+◌, Bool, not, ◌&&◌, ◌||◌, nat_le, ℤ, ◌+ℤ◌, ◌-ℤ◌, int_le, int_lt, unsigned_abs}
use Rattle.corner_shapes.specs.declared.radii.Radii.{Radii}
use Rattle.corner_shapes.specs.declared.rounded.Rounded.{Rounded}
use Rattle.corner_shapes.specs.Radii.{top_left, top_right, bottom_right, bottom_left}
use Rattle.corner_shapes.specs.Curve.{square, distance}

-- whether the ellipse with this centre and these radii holds a point, its curve too
abbrev pub ellipse_holds : (centre_x centre_y : ℤ) → Radii → (x y : ℤ) → Bool
ellipse_holds centre_x centre_y radii x y =
    nat_le
    (square (distance x centre_x * unsigned_abs radii.y) + square (distance y centre_y * unsigned_abs radii.x))
    (square (unsigned_abs radii.x * unsigned_abs radii.y))

-- whether a point is in its place, where it has to be only if it belongs to a corner across and down
abbrev pub holds_if : (across down held : Bool) → Bool
holds_if across down held = not (across && down) || held

-- whether a point lies in each corner that it belongs to
abbrev pub fits_top_left : Rounded → ℤ → ℤ → Bool
fits_top_left box x y =
    let radii = top_left box.corners in
    let centre_x = box.l +ℤ radii.x in
    let centre_y = box.t +ℤ radii.y in
    holds_if (int_lt x centre_x) (int_lt y centre_y) (ellipse_holds centre_x centre_y radii x y)

abbrev pub fits_top_right : Rounded → ℤ → ℤ → Bool
fits_top_right box x y =
    let radii = top_right box.corners in
    let centre_x = box.r -ℤ radii.x in
    let centre_y = box.t +ℤ radii.y in
    holds_if (int_le centre_x x) (int_lt y centre_y) (ellipse_holds centre_x centre_y radii x y)

abbrev pub fits_bottom_right : Rounded → ℤ → ℤ → Bool
fits_bottom_right box x y =
    let radii = bottom_right box.corners in
    let centre_x = box.r -ℤ radii.x in
    let centre_y = box.b -ℤ radii.y in
    holds_if (int_le centre_x x) (int_le centre_y y) (ellipse_holds centre_x centre_y radii x y)

abbrev pub fits_bottom_left : Rounded → ℤ → ℤ → Bool
fits_bottom_left box x y =
    let radii = bottom_left box.corners in
    let centre_x = box.l +ℤ radii.x in
    let centre_y = box.b -ℤ radii.y in
    holds_if (int_lt x centre_x) (int_le centre_y y) (ellipse_holds centre_x centre_y radii x y)

abbrev pub fits_corners : Rounded → ℤ → ℤ → Bool
fits_corners box x y =
    (fits_top_left box x y && fits_top_right box x y) && (fits_bottom_right box x y && fits_bottom_left box x y)

-- whether a point lies between the edges: the left and top ones are in, the right and bottom ones aren't
abbrev pub is_between_edges : Rounded → ℤ → ℤ → Bool
is_between_edges box x y =
    (int_le box.l x && int_lt x box.r) && (int_le box.t y && int_lt y box.b)

-- whether a rounded box holds a point
unfoldable pub in_rounded : Rounded → ℤ → ℤ → Bool
in_rounded box x y = is_between_edges box x y && fits_corners box x y
