-- SVG 2, "The 'fill-rule' property": a ray goes from the point to infinity, and the segments of the shape that cross it
-- are counted, with a sign for the winding, without one for the crossings. Each subpath is closed for this. An edge holds
-- its upper end and not its lower one, so a ray through a vertex is crossed once where the shape goes on through it.
use Rattle.std.specs.Prelude.{◌≡◌, ◌≢◌, ℕ, ◌+◌, ◌%◌, ℤ, pos, negsuc, ◌+ℤ◌, int_le, int_lt, Bool, ◌&&◌, ◌||◌, if◌then◌else◌, List, [], ◌∷◌}
use Rattle.poly_shapes.specs.declared.segment.Segment.{Segment}
use Rattle.poly_shapes.specs.declared.point.FillRule.{FillRule}
use Rattle.poly_shapes.specs.declared.point.FillRule.TheVariants.{NonZero, EvenOdd}
use Rattle.poly_shapes.specs.Segments.{across}

-- the edge goes down past the height y, with y growing downwards: y1 <= y < y2
abbrev pub goes_down : Segment → ℤ → Bool
goes_down edge y = int_le edge.from.y y && int_lt y edge.to.y

-- the edge goes up past the height y: y2 <= y < y1
abbrev pub goes_up : Segment → ℤ → Bool
goes_up edge y = int_le edge.to.y y && int_lt y edge.from.y

-- the ray to the right from the point is crossed downwards, and upwards
abbrev pub crosses_down : Segment → (x y : ℤ) → Bool
crosses_down edge x y = goes_down edge y && int_lt (pos 0) (across edge x y)

abbrev pub crosses_up : Segment → (x y : ℤ) → Bool
crosses_up edge x y = goes_up edge y && int_lt (across edge x y) (pos 0)

-- +1 for an edge that crosses downwards, -1 for one that crosses upwards
abbrev pub edge_winding : Segment → (x y : ℤ) → ℤ
edge_winding edge x y = if crosses_down edge x y then pos 1 else (if crosses_up edge x y then negsuc 0 else pos 0)

-- 1 for an edge that crosses either way
abbrev pub edge_crossings : Segment → (x y : ℤ) → ℕ
edge_crossings edge x y = if crosses_down edge x y || crosses_up edge x y then 1 else 0

-- the sums over a list of edges
abbrev pub winding : List Segment → (x y : ℤ) → ℤ
winding [] x y = pos 0
winding (edge ∷ edges) x y = edge_winding edge x y +ℤ winding edges x y

abbrev pub crossings : List Segment → (x y : ℤ) → ℕ
crossings [] x y = 0
crossings (edge ∷ edges) x y = edge_crossings edge x y + crossings edges x y

-- what is inside the fill: where the winding isn't 0, or where the crossings are odd
abbrev pub Fills : FillRule → List Segment → (x y : ℤ) → Type 0
Fills NonZero edges x y = winding edges x y ≢ pos 0
Fills EvenOdd edges x y = crossings edges x y % 2 ≡ 1
