-- SVG 2, "Stroke properties" and "Computing the shape of the stroke", for lines of one width with round joins. That each
-- join is round, and what a subpath at one point gets, is this library's own choice.
use Rattle.std.specs.Prelude.{ℕ, ◌+◌, ◌*◌, ℤ, pos, ◌-ℤ◌, unsigned_abs, int_le, int_lt, nat_le, nat_lt, Bool, true, false, ◌&&◌, ◌||◌, Option, None, Some, List, [], ◌∷◌, map}
use Rattle.std.specs.List.{filter, list_any}
use Rattle.poly_shapes.specs.declared.point.Point.{Point}
use Rattle.poly_shapes.specs.declared.point.Sub.{Sub}
use Rattle.poly_shapes.specs.declared.point.Cap.{Cap}
use Rattle.poly_shapes.specs.declared.point.Cap.TheVariants.{Butt, Round, Square}
use Rattle.poly_shapes.specs.declared.segment.Segment.{Segment}
use Rattle.poly_shapes.specs.Segments.{square, across, along, distance, square_length, path_from, ring, open_path}
use Rattle.poly_shapes.specs.Outline.{Outline, points_of}

-- an offset that is given times a length is at most half the width: 4 d^2 <= w^2 L^2
abbrev pub is_within_half : (width square_length offset : ℕ) → Bool
is_within_half width length_squared offset = nat_le (4 * square offset) (square width * length_squared)

-- the point lies no further from the segment's line than half the width
abbrev pub is_beside : (width : ℕ) → Segment → (x y : ℤ) → Bool
is_beside width s x y = is_within_half width (square_length s) (unsigned_abs (across s x y))

-- the point lies neither before the start of the segment nor beyond its end: 0 <= t <= L^2
abbrev pub is_between_ends : Segment → (x y : ℤ) → Bool
is_between_ends s x y = int_le (pos 0) (along s x y) && int_le (along s x y) (pos (square_length s))

-- the body of a segment
abbrev pub body_holds : (width : ℕ) → (x y : ℤ) → Segment → Bool
body_holds width x y s = is_between_ends s x y && is_beside width s x y

-- the disc of the width round a point
abbrev pub disc_holds : (width : ℕ) → (x y : ℤ) → Point → Bool
disc_holds width x y p = nat_le (4 * (square (distance x p.x) + square (distance y p.y))) (square width)

-- the point lies before the start of the segment, by at most half the width
abbrev pub is_just_before : (width : ℕ) → Segment → (x y : ℤ) → Bool
is_just_before width s x y =
    int_lt (along s x y) (pos 0) && is_within_half width (square_length s) (unsigned_abs (along s x y))

-- the point lies beyond the end of the segment, by at most half the width
abbrev pub is_just_beyond : (width : ℕ) → Segment → (x y : ℤ) → Bool
is_just_beyond width s x y =
    int_lt (pos (square_length s)) (along s x y)
    && is_within_half width (square_length s) (unsigned_abs (along s x y -ℤ pos (square_length s)))

-- the half squares at the start and at the end of a segment
abbrev pub square_before : (width : ℕ) → (x y : ℤ) → Segment → Bool
square_before width x y s = is_just_before width s x y && is_beside width s x y

abbrev pub square_beyond : (width : ℕ) → (x y : ℤ) → Segment → Bool
square_beyond width x y s = is_just_beyond width s x y && is_beside width s x y

-- what the cap adds at the two ends of an open subpath, which are the start of its first segment and the end of its last
abbrev pub cap_holds : Cap → (width : ℕ) → (x y : ℤ) → (first last : Segment) → Bool
cap_holds Butt width x y first last = false
cap_holds Round width x y first last = disc_holds width x y first.from || disc_holds width x y last.to
cap_holds Square width x y first last = square_before width x y first || square_beyond width x y last

-- the stroke of a subpath that lies at one point
abbrev pub dot_holds : Cap → (width : ℕ) → (x y : ℤ) → Point → Bool
dot_holds Butt width x y p = false
dot_holds Round width x y p = disc_holds width x y p
dot_holds Square width x y p = nat_le (2 * distance x p.x) width && nat_le (2 * distance y p.y) width

-- segments of length 0 are dropped
abbrev pub has_length : Segment → Bool
has_length s = nat_lt 0 (square_length s)

abbrev pub lines_from : Point → List Point → List Segment
lines_from p points = filter has_length (path_from p points)

abbrev pub segments : (closed : Bool) → List Point → List Segment
segments true points = filter has_length (ring points)
segments false points = filter has_length (open_path points)

abbrev pub first_of : List Segment → Option Segment
first_of [] = None
first_of (s ∷ lines) = Some s

-- the starts of segments
abbrev pub starts : List Segment → List Point
starts lines = map (λ s. s.from) lines

-- the joins: the points between two segments that remain, and in a closed subpath that of the last and the first too
abbrev pub joins : (closed : Bool) → List Segment → List Point
joins true lines = starts lines
joins false [] = []
joins false (first ∷ lines) = starts lines

-- some body or some join holds the point
abbrev pub line_holds : (closed : Bool) → (width : ℕ) → (x y : ℤ) → List Segment → Bool
line_holds closed width x y lines =
    list_any (body_holds width x y) lines || list_any (disc_holds width x y) (joins closed lines)

-- the last segment, after this one
abbrev pub last_of : Segment → List Segment → Segment
last_of s [] = s
last_of s (next ∷ lines) = last_of next lines

-- some end holds the point: a closed subpath has none
abbrev pub end_holds : (closed : Bool) → Cap → (width : ℕ) → (x y : ℤ) → Segment → List Segment → Bool
end_holds true cap width x y first lines = false
end_holds false cap width x y first lines = cap_holds cap width x y first (last_of first lines)

-- the stroke of the segments that remain of a subpath from a point on
abbrev pub outline_holds : (closed : Bool) → Cap → (width : ℕ) → (x y : ℤ) → Point → List Segment → Bool
outline_holds closed cap width x y p [] = dot_holds cap width x y p
outline_holds closed cap width x y p (first ∷ lines) =
    line_holds closed width x y (first ∷ lines) || end_holds closed cap width x y first lines

-- the stroke of a subpath: one of fewer than two points has none
abbrev pub subpath_holds : (closed : Bool) → Cap → (width : ℕ) → (x y : ℤ) → List Point → Bool
subpath_holds closed cap width x y [] = false
subpath_holds closed cap width x y (p ∷ []) = false
subpath_holds closed cap width x y (p ∷ q ∷ points) =
    outline_holds closed cap width x y p (segments closed (p ∷ q ∷ points))

-- the stroke of an outline: that of some subpath holds the point; with width 0 there is none
abbrev pub strokes_of : Cap → (width : ℕ) → (x y : ℤ) → List Point → List Sub → Bool
strokes_of cap width x y points subs =
    list_any (λ sub. subpath_holds sub.closed cap width x y (points_of points sub)) subs

abbrev pub strokes : Outline → (width : ℕ) → Cap → (x y : ℤ) → Bool
strokes outline width cap x y = nat_lt 0 width && strokes_of cap width x y outline.points outline.subs
