-- The stroke of an outline lies within the bounds of its points, moved out by the width: what holds the point is some
-- segment, disc or end whose points the bounds hold.
use Rattle.std.proofs.Common.{◌≡◌, ℕ, suc, ◌+◌, ◌-◌, ◌⊎◌, inl, inr, ℤ, pos, ◌+ℤ◌, ◌-ℤ◌, ◌≤ℤ◌, Bool, true, false, cond, List, [], ◌∷◌, length, drop, get_or, Some, IsSomeAnd, arith, refl}
use Rattle.std.specs.List.{All, filter, list_any}
use Rattle.std.specs.Prelude.{⊤}
use Rattle.std.proofs.lemmas.List.Elements.{All-take, All-drop}
use Rattle.std.proofs.lemmas.Int.{ints}
use Rattle.std.proofs.lemmas.Option.{slice_get-get_or}
use Rattle.poly_shapes.specs.declared.point.Point.{Point}
use Rattle.poly_shapes.specs.declared.point.Sub.{Sub}
use Rattle.poly_shapes.specs.declared.point.Bounds.{Bounds}
use Rattle.poly_shapes.specs.declared.point.Cap.{Cap}
use Rattle.poly_shapes.specs.declared.point.Cap.TheVariants.{Butt, Round, Square}
use Rattle.poly_shapes.specs.declared.segment.Segment.{Segment}
use Rattle.poly_shapes.specs.Segments.{path_from, last_point, ring, open_path}
use Rattle.poly_shapes.specs.Outline.{points_of}
use Rattle.poly_shapes.specs.Extent.{bounds_of, Holds, moved_out}
use Rattle.poly_shapes.specs.Stroke.{body_holds, disc_holds, square_before, square_beyond, cap_holds, has_length, segments, starts, joins, line_holds, last_of, end_holds, outline_holds, subpath_holds, strokes_of}
use Rattle.poly_shapes.proofs.ExtentLemmas.{HoldsPoint, bounds_of-holds}
use Rattle.poly_shapes.proofs.ReachLemmas.{IsDrawn, or_true, body-reach, before-reach, beyond-reach, disc-reach, dot-reach}

-- each element, one after another
abbrev Each : {A : Type 0} → (A → Type 0) → List A → Type 0
Each P [] = ⊤
Each P (x ∷ xs) = P x × Each P xs

either : {P Q G : Type 0} → P ⊎ Q → (P → G) → (Q → G) → G
either (inl p) f g = f p
either (inr q) f g = g q

-- what some element gives, where each may give it
any_gives : {A : Type 0} (P : A → Type 0) (test : A → Bool) (G : Type 0) (give : (x : A) → P x → test x ≡ true → G)
    (xs : List A) → Each P xs → list_any test xs ≡ true → G
any_gives P test G give [] each e = absurd (let no : ⊥ = cc in no)
any_gives P test G give (x ∷ xs) each e =
    either (or_true (test x) (list_any test xs) e)
    (λ here. give x each.0 here)
    (λ there. any_gives P test G give xs each.1 there)

abbrev IsWithin : Bounds → Segment → Type 0
IsWithin b s = HoldsPoint b s.from × HoldsPoint b s.to

path-within : (b : Bounds) (a : Point) (points : List Point) → HoldsPoint b a → All (HoldsPoint b) points
    → Each (IsWithin b) (path_from a points)
path-within b a [] first each = tt
path-within b a (p ∷ points) first each =
    let next : HoldsPoint b p = each 0 p (omega arith) in
    ((first, next), path-within b p points next (λ k d h. each (suc k) d (omega arith)))

ring-within : (b : Bounds) (p : Point) (points : List Point) → All (HoldsPoint b) (p ∷ points) → Each (IsWithin b) (ring (p ∷ points))
ring-within b p points each =
    let last : last_point (p ∷ points) ≡ Some (get_or (p ∷ points) (length (p ∷ points) - 1) p) =
    slice_get-get_or (p ∷ points) (length (p ∷ points) - 1) p (omega arith) in
    rw last (path-within b (get_or (p ∷ points) (length (p ∷ points) - 1) p) (p ∷ points)
    (each (length (p ∷ points) - 1) p (omega arith)) each)

drawn-cons : (b : Bounds) (s : Segment) (lines : List Segment) → IsWithin b s → Each (IsDrawn b) (filter has_length lines)
    → (long : Bool) → has_length s ≡ long
    → Each (IsDrawn b) (cond long (s ∷ filter has_length lines) (filter has_length lines))
drawn-cons b s lines ends rest true e = (record { from = ends.0; to = ends.1; long = e }, rest)
drawn-cons b s lines ends rest false e = rest

-- the segments that remain are drawn
drawn : (b : Bounds) (lines : List Segment) → Each (IsWithin b) lines → Each (IsDrawn b) (filter has_length lines)
drawn b [] each = tt
drawn b (s ∷ lines) each =
    drawn-cons b s lines each.0 (drawn b lines each.1) (has_length s) refl

segments-drawn : (closed : Bool) (b : Bounds) (p : Point) (points : List Point) → All (HoldsPoint b) (p ∷ points)
    → Each (IsDrawn b) (segments closed (p ∷ points))
segments-drawn true b p points each = drawn b (ring (p ∷ points)) (ring-within b p points each)
segments-drawn false b p points each =
    drawn b (open_path (p ∷ points))
    (path-within b p points (each 0 p (omega arith)) (λ k d h. each (suc k) d (omega arith)))

starts-within : (b : Bounds) (lines : List Segment) → Each (IsDrawn b) lines → Each (HoldsPoint b) (starts lines)
starts-within b [] each = tt
starts-within b (s ∷ lines) each = (each.0.from, starts-within b lines each.1)

joins-within : (closed : Bool) (b : Bounds) (lines : List Segment) → Each (IsDrawn b) lines → Each (HoldsPoint b) (joins closed lines)
joins-within true b lines each = starts-within b lines each
joins-within false b [] each = tt
joins-within false b (s ∷ lines) each = starts-within b lines each.1

last-drawn : (b : Bounds) (s : Segment) (lines : List Segment) → IsDrawn b s → Each (IsDrawn b) lines → IsDrawn b (last_of s lines)
last-drawn b s [] first each = first
last-drawn b s (next ∷ lines) first each = last-drawn b next lines each.0 each.1

line-reach : (closed : Bool) (w : ℕ) (x y : ℤ) (b : Bounds) (lines : List Segment) → Each (IsDrawn b) lines
    → line_holds closed w x y lines ≡ true → Holds (moved_out w b) x y
line-reach closed w x y b lines each e = by_part (or_true (list_any (body_holds w x y) lines) _ e)
  where
    by_part : (list_any (body_holds w x y) lines ≡ true) ⊎ (list_any (disc_holds w x y) (joins closed lines) ≡ true)
        → Holds (moved_out w b) x y
    by_part (inl body) = any_gives (IsDrawn b) (body_holds w x y) (Holds (moved_out w b) x y) (body-reach w x y b) lines each body
    by_part (inr join) = any_gives (HoldsPoint b) (disc_holds w x y) (Holds (moved_out w b) x y) (disc-reach w x y b)
        (joins closed lines) (joins-within closed b lines each) join

cap-reach : (ends : Cap) (w : ℕ) (x y : ℤ) (b : Bounds) (first last : Segment) → IsDrawn b first → IsDrawn b last
    → cap_holds ends w x y first last ≡ true → Holds (moved_out w b) x y
cap-reach Butt w x y b first last f l e = absurd (let no : ⊥ = cc in no)
cap-reach Round w x y b first last f l e = by_end (or_true (disc_holds w x y first.from) (disc_holds w x y last.to) e)
  where
    by_end : (disc_holds w x y first.from ≡ true) ⊎ (disc_holds w x y last.to ≡ true) → Holds (moved_out w b) x y
    by_end (inl start) = disc-reach w x y b first.from f.from start
    by_end (inr end) = disc-reach w x y b last.to l.to end
cap-reach Square w x y b first last f l e = by_end (or_true (square_before w x y first) (square_beyond w x y last) e)
  where
    by_end : (square_before w x y first ≡ true) ⊎ (square_beyond w x y last ≡ true) → Holds (moved_out w b) x y
    by_end (inl start) = before-reach w x y b first f start
    by_end (inr end) = beyond-reach w x y b last l end

end-reach : (closed : Bool) (ends : Cap) (w : ℕ) (x y : ℤ) (b : Bounds) (s : Segment) (lines : List Segment)
    → IsDrawn b s → Each (IsDrawn b) lines → end_holds closed ends w x y s lines ≡ true → Holds (moved_out w b) x y
end-reach true ends w x y b s lines first each e = absurd (let no : ⊥ = cc in no)
end-reach false ends w x y b s lines first each e =
    cap-reach ends w x y b s (last_of s lines) first (last-drawn b s lines first each) e

outline-reach : (closed : Bool) (ends : Cap) (w : ℕ) (x y : ℤ) (b : Bounds) (dot : Point) (lines : List Segment)
    → HoldsPoint b dot → Each (IsDrawn b) lines → outline_holds closed ends w x y dot lines ≡ true → Holds (moved_out w b) x y
outline-reach closed ends w x y b dot [] held each e = dot-reach ends w x y b dot held e
outline-reach closed ends w x y b dot (s ∷ lines) held each e =
    by_part (or_true (line_holds closed w x y (s ∷ lines)) (end_holds closed ends w x y s lines) e)
  where
    by_part : (line_holds closed w x y (s ∷ lines) ≡ true) ⊎ (end_holds closed ends w x y s lines ≡ true) → Holds (moved_out w b) x y
    by_part (inl line) = line-reach closed w x y b (s ∷ lines) each line
    by_part (inr end) = end-reach closed ends w x y b s lines each.0 each.1 end

subpath-reach : (closed : Bool) (ends : Cap) (w : ℕ) (x y : ℤ) (b : Bounds) (points : List Point) → All (HoldsPoint b) points
    → subpath_holds closed ends w x y points ≡ true → Holds (moved_out w b) x y
subpath-reach closed ends w x y b [] each e = absurd (let no : ⊥ = cc in no)
subpath-reach closed ends w x y b (p ∷ []) each e = absurd (let no : ⊥ = cc in no)
subpath-reach closed ends w x y b (p ∷ q ∷ points) each e =
    outline-reach closed ends w x y b p (segments closed (p ∷ q ∷ points)) (each 0 p (omega arith))
    (segments-drawn closed b p (q ∷ points) each) e

strokes-reach : (ends : Cap) (w : ℕ) (x y : ℤ) (b : Bounds) (points : List Point) (subs : List Sub) → All (HoldsPoint b) points
    → strokes_of ends w x y points subs ≡ true → Holds (moved_out w b) x y
strokes-reach ends w x y b points [] each e = absurd (let no : ⊥ = cc in no)
strokes-reach ends w x y b points (sub ∷ subs) each e =
    either (or_true (subpath_holds sub.closed ends w x y (points_of points sub)) (strokes_of ends w x y points subs) e)
    (λ here. subpath-reach sub.closed ends w x y b (points_of points sub)
    (All-take (HoldsPoint b) (sub.first + sub.count - sub.first) (drop sub.first points) (All-drop (HoldsPoint b) sub.first points each))
    here)
    (λ there. strokes-reach ends w x y b points subs each there)

-- without points nothing is stroked: it would lie within any bounds
abbrev right_of : (w : ℕ) (x : ℤ) → Bounds
right_of w x = record { l = x +ℤ pos (w + 1); t = pos 0; r = pos 0; b = pos 0 }

strokes-none : (ends : Cap) (w : ℕ) (x y : ℤ) (subs : List Sub) → strokes_of ends w x y [] subs ≡ true → ⊥
strokes-none ends w x y subs e =
    let held = strokes-reach ends w x y (right_of w x) [] subs (λ k d h. absurd (omega arith)) e in
    not_right x w held.left
  where
    not_right : (x : ℤ) (w : ℕ) → ((x +ℤ pos (w + 1)) -ℤ pos w) ≤ℤ x → ⊥
    not_right x w h = omega (arith, ints)

-- what is stroked lies within the bounds, moved out by the width
pub strokes-in_bounds : (ends : Cap) (w : ℕ) (x y : ℤ) (points : List Point) (subs : List Sub)
    → strokes_of ends w x y points subs ≡ true → IsSomeAnd (bounds_of points) (λ b. Holds (moved_out w b) x y)
strokes-in_bounds ends w x y [] subs e = absurd (strokes-none ends w x y subs e)
strokes-in_bounds ends w x y (p ∷ points) subs e =
    strokes-reach ends w x y _ (p ∷ points) subs (bounds_of-holds (p ∷ points)) e

pub false_unless : (b : Bool) → (b ≡ true → ⊥) → false ≡ b
false_unless true never = absurd (never refl)
false_unless false never = refl
