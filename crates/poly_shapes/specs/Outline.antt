-- A shape as its points and its subpaths, which take the points in order.
use Rattle.std.specs.Prelude.{◌≡◌, false, ℕ, ◌+◌, ◌^◌, ◌≤◌, List, [], ◌∷◌, length, slice_range}
use Rattle.std.specs.List.{All, flat_map}
use Rattle.poly_shapes.specs.declared.point.Point.{Point}
use Rattle.poly_shapes.specs.declared.point.Sub.{Sub}
use Rattle.poly_shapes.specs.declared.segment.Segment.{Segment}
use Rattle.poly_shapes.specs.Segments.{IsPlaced, ring}

pub record Outline : Type 0 where
  pub points : List Point
  pub subs : List Sub

-- the points of a subpath
abbrev pub points_of : List Point → Sub → List Point
points_of points sub = slice_range points sub.first (sub.first + sub.count)

-- the subpaths tile the points in order: the first begins here, each other one where the one before it ends, and the
-- last ends there
abbrev pub AreTiled : (here there : ℕ) → List Sub → Type 0
AreTiled here there [] = here ≡ there
AreTiled here there (sub ∷ subs) = (sub.first ≡ here) × AreTiled (here + sub.count) there subs

-- the outlines that are tested: coordinates up to 2^26 either way, at most 524,288 points
pub record IsMeasured (outline : Outline) : Type 0 where
  pub placed : All IsPlaced outline.points
  pub few : length outline.points ≤ 2 ^ 19
  pub tiled : AreTiled 0 (length outline.points) outline.subs

-- the edges of the fill: those of each subpath, each closed
abbrev pub edges_of : List Point → List Sub → List Segment
edges_of points subs = flat_map (λ sub. ring (points_of points sub)) subs

abbrev pub edges : Outline → List Segment
edges outline = edges_of outline.points outline.subs

-- a straight line: one open subpath of its two ends
abbrev pub line : (from to : Point) → Outline
line from to = record { points = from ∷ to ∷ []; subs = record { first = 0; count = 2; closed = false } ∷ [] }
