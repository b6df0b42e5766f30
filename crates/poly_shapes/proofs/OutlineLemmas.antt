-- What the tiling of the points by the subpaths gives.
use Rattle.std.proofs.Common.{ℕ, zero, suc, ◌≡◌, ◌+◌, ◌-◌, ◌^◌, ◌<◌, ◌≤◌, List, [], ◌∷◌, ◌++◌, ℤ, ◌+ℤ◌, length, drop, get_or, arith, ◌∙◌, length-take, length-drop}
use Rattle.std.specs.List.{All}
use Rattle.std.specs.Prelude.{unsigned_abs}
use Rattle.poly_shapes.proofs.Widths.{read}
use Rattle.poly_shapes.proofs.FillLemmas.{sum-size}
use Rattle.std.proofs.lemmas.Int.{ints}
use Rattle.std.proofs.lemmas.List.{at_drop_more}
use Rattle.std.proofs.lemmas.List.Elements.{All-take, All-drop}
use Rattle.poly_shapes.specs.declared.point.Point.{Point}
use Rattle.poly_shapes.specs.declared.point.Sub.{Sub}
use Rattle.poly_shapes.specs.declared.segment.Segment.{Segment}
use Rattle.poly_shapes.specs.Segments.{IsPlaced, ring}
use Rattle.poly_shapes.specs.Outline.{AreTiled, points_of, edges_of}
use Rattle.poly_shapes.specs.Fill.{winding, crossings}

-- how many points the subpaths take
abbrev pub total : List Sub → ℕ
total [] = 0
total (sub ∷ subs) = sub.count + total subs

pub total-tiled : (here there : ℕ) (subs : List Sub) → AreTiled here there subs → here + total subs ≡ there
total-tiled here there [] tiled = omega (arith, tiled)
total-tiled here there (sub ∷ subs) tiled = let rest = total-tiled (here + sub.count) there subs tiled.1 in omega arith

pub total-step : (subs : List Sub) (i : ℕ) (d : Sub) → i < length subs
    → total (drop i subs) ≡ (get_or subs i d).count + total (drop (i + 1) subs)
total-step subs i d h = at_drop_more total subs i d h

-- each subpath lies within the points
pub tiled-within : (here there : ℕ) (subs : List Sub) (i : ℕ) (d : Sub) → AreTiled here there subs → i < length subs
    → (get_or subs i d).first + (get_or subs i d).count ≤ there
tiled-within here there [] i d tiled h = absurd (omega arith)
tiled-within here there (sub ∷ subs) zero d tiled h =
    let rest = total-tiled (here + sub.count) there subs tiled.1 in let first = tiled.0 in omega arith
tiled-within here there (sub ∷ subs) (suc i) d tiled h =
    tiled-within (here + sub.count) there subs i d tiled.1 (omega arith)

pub points_of-few : (points : List Point) (sub : Sub) → length (points_of points sub) ≤ sub.count
points_of-few points sub = simp (length-take, length-drop) (omega arith)

points_of-short : (points : List Point) (sub : Sub) → length (points_of points sub) ≤ length points
points_of-short points sub = simp (length-take, length-drop) (omega arith)

pub narrow_by_points : (next : ℤ) (points : List Point) (sub : Sub) → length points ≤ 2 ^ 19
    → unsigned_abs next ≤ length (points_of points sub) → unsigned_abs next ≤ 2 ^ 40
narrow_by_points next points sub small narrow = let short = points_of-short points sub in omega arith

-- sums over the edges of some subpaths are sums of those of each
pub winding-append : (first second : List Segment) (x y : ℤ)
    → winding (first ++ second) x y ≡ winding first x y +ℤ winding second x y
winding-append [] second x y = omega (arith, ints)
winding-append (edge ∷ first) second x y = let rest = winding-append first second x y in omega (arith, ints)

pub crossings-append : (first second : List Segment) (x y : ℤ)
    → crossings (first ++ second) x y ≡ crossings first x y + crossings second x y
crossings-append [] second x y = omega arith
crossings-append (edge ∷ first) second x y = let rest = crossings-append first second x y in omega arith

pub outline_winding-step : (points : List Point) (subs : List Sub) (i : ℕ) (d : Sub) (x y : ℤ) → i < length subs
    → winding (edges_of points (drop i subs)) x y
    ≡ winding (ring (points_of points (get_or subs i d))) x y +ℤ winding (edges_of points (drop (i + 1) subs)) x y
outline_winding-step points subs i d x y h =
    at_drop_more (λ rest. winding (edges_of points rest) x y) subs i d h
    ∙ winding-append (ring (points_of points (get_or subs i d))) (edges_of points (drop (i + 1) subs)) x y

pub outline_crossings-step : (points : List Point) (subs : List Sub) (i : ℕ) (d : Sub) (x y : ℤ) → i < length subs
    → crossings (edges_of points (drop i subs)) x y
    ≡ crossings (ring (points_of points (get_or subs i d))) x y + crossings (edges_of points (drop (i + 1) subs)) x y
outline_crossings-step points subs i d x y h =
    at_drop_more (λ rest. crossings (edges_of points rest) x y) subs i d h
    ∙ crossings-append (ring (points_of points (get_or subs i d))) (edges_of points (drop (i + 1) subs)) x y

-- a count that is at most the number of points taken so far stays so with the next subpath
pub size-kept : (done next : ℕ) (points : List Point) (subs : List Sub) (i : ℕ) (d : Sub) → i < length subs
    → done + total (drop i subs) ≤ length points → next ≤ length (points_of points (get_or subs i d))
    → done + next + total (drop (i + 1) subs) ≤ length points
size-kept done next points subs i d h before narrow =
    let step = total-step subs i d h in let few = points_of-few points (get_or subs i d) in omega arith

pub signed_size-kept : (done next : ℤ) (points : List Point) (subs : List Sub) (i : ℕ) (d : Sub) → i < length subs
    → length points ≤ 2 ^ 19 → unsigned_abs done + total (drop i subs) ≤ length points
    → unsigned_abs next ≤ length (points_of points (get_or subs i d))
    → unsigned_abs (read (done +ℤ read next)) + total (drop (i + 1) subs) ≤ length points
signed_size-kept done next points subs i d h small before narrow =
    let kept = size-kept (unsigned_abs done) (unsigned_abs next) points subs i d h before narrow in
    let sum = sum-size done next (unsigned_abs done) (unsigned_abs next) (omega arith) (omega arith) (omega arith) in
    omega arith

pub count-kept : (done next stated left rest whole : ℕ) → next ≡ stated → done + left ≡ whole → left ≡ stated + rest
    → done + next + rest ≡ whole
count-kept done next stated left rest whole same before step = omega arith
