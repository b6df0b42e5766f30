-- The segments that remain, one step along the points.
use Rattle.std.proofs.Common.{ℕ, ◌≡◌, ◌+◌, ◌<◌, ℤ, Bool, true, false, ◌&&◌, ◌||◌, List, ◌∷◌, length, drop, get_or, arith, refl, ◌∙◌}
use Rattle.std.specs.List.{list_any}
use Rattle.std.proofs.lemmas.List.{at_drop_more}
use Rattle.poly_shapes.specs.declared.point.Point.{Point}
use Rattle.poly_shapes.specs.declared.segment.Segment.{Segment}
use Rattle.poly_shapes.specs.Stroke.{has_length, lines_from, line_holds, body_holds, disc_holds, starts, subpath_holds, strokes_of}
use Rattle.poly_shapes.specs.declared.point.Sub.{Sub}
use Rattle.poly_shapes.specs.declared.point.Cap.{Cap}
use Rattle.poly_shapes.specs.Outline.{points_of}

abbrev pub segment : Point → Point → Segment
segment from to = record { from = from; to = to }

-- a segment with a length remains
pub lines-kept : (from : Point) (points : List Point) (i : ℕ) (d : Point) → i < length points
    → has_length (segment from (get_or points i d)) ≡ true
    → lines_from from (drop i points) ≡ segment from (get_or points i d) ∷ lines_from (get_or points i d) (drop (i + 1) points)
lines-kept from points i d h kept = at_drop_more (λ rest. lines_from from rest) points i d h ∙ rw kept refl

-- and one without is dropped
pub lines-dropped : (from : Point) (points : List Point) (i : ℕ) (d : Point) → i < length points
    → has_length (segment from (get_or points i d)) ≡ false
    → lines_from from (drop i points) ≡ lines_from (get_or points i d) (drop (i + 1) points)
lines-dropped from points i d h dropped = at_drop_more (λ rest. lines_from from rest) points i d h ∙ rw dropped refl

or_parts : (a b c d : Bool) → (a || b) || (c || d) ≡ (a || c) || (b || d)
or_parts true b c d = refl
or_parts false b true d = grind arith
or_parts false b false d = refl

-- a line is held by its first segment, with the disc at its start where it has a join there, or by the others, which all
-- have joins at their starts
line_holds-cons : (joined : Bool) (width : ℕ) (x y : ℤ) (s : Segment) (lines : List Segment)
    → line_holds joined width x y (s ∷ lines)
    ≡ ((body_holds width x y s || (joined && disc_holds width x y s.from)) || line_holds true width x y lines)
line_holds-cons true width x y s lines = or_parts (body_holds width x y s)
    (list_any (body_holds width x y) lines) (disc_holds width x y s.from) (list_any (disc_holds width x y) (starts lines))
line_holds-cons false width x y s lines = or_parts (body_holds width x y s)
    (list_any (body_holds width x y) lines) false (list_any (disc_holds width x y) (starts lines))

-- what its first segment doesn't hold the others hold
pub line_holds-rest : (joined : Bool) (width : ℕ) (x y : ℤ) (s : Segment) (lines : List Segment)
    → (body_holds width x y s || (joined && disc_holds width x y s.from)) ≡ false
    → line_holds joined width x y (s ∷ lines) ≡ line_holds true width x y lines
line_holds-rest joined width x y s lines e = line_holds-cons joined width x y s lines ∙ rw e refl

-- what its first segment holds it holds
pub line_holds-first : (joined : Bool) (width : ℕ) (x y : ℤ) (s : Segment) (lines : List Segment)
    → (body_holds width x y s || (joined && disc_holds width x y s.from)) ≡ true
    → line_holds joined width x y (s ∷ lines) ≡ true
line_holds-first joined width x y s lines e = line_holds-cons joined width x y s lines ∙ rw e refl
