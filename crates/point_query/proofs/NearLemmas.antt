-- An item that is admitted at a point of the viewport is near the point: its local rectangle holds the local point, so its
-- bounds hold the point and meet its cell.
use Rattle.std.proofs.Common.{◌≡◌, ℕ, zero, suc, ℤ, pos, negsuc, ◌*ℤ◌, ◌<ℤ◌, ◌≤ℤ◌, List, [], ◌∷◌, Option, Some, None, Bool, true, false, IsTrue, cond, if◌then◌else◌, refl, sym, ap, subst, ◌∙◌, arith}
use Rattle.std.specs.Prelude.{IfSome, int_le, int_lt}
use Rattle.std.specs.List.{Contains, filter}
use Rattle.std.specs.Ordering.{int_eq}
use Rattle.std.specs.Option.{option_map, option_map_or, option_and_then}
use Rattle.std.proofs.lemmas.Int.{ints}
use Rattle.std.proofs.lemmas.Bool.{false≢true, and_parts}
use Rattle.fractions.specs.declared.rect.Rect.{Rect}
use Rattle.fractions.specs.Rect.{Holds}
use Rattle.affine.specs.declared.map.Parts.{Parts}
use Rattle.affine.specs.Point.{determinant, rounded_down, preimage, local_point as point_in}
use Rattle.affine.specs.Hull.{hull_of, no_rect, shared_part}
use Rattle.spatial_index.specs.Cells.{line_of, level_of}
use Rattle.spatial_index.proofs.LawLemmas.{AreCellsOfPoints-positive}
use Rattle.computed_style.specs.declared.inherited.Inherited.{Inherited}
use Rattle.box_tree.specs.declared.item.Item.{Item}
use Rattle.box_tree.specs.declared.item.Part.{Part}
use Rattle.box_tree.specs.declared.viewport.Viewport.{Viewport}
use Rattle.box_tree.specs.Forest.{Label, Placed}
use Rattle.box_tree.specs.Contents.{Contents, placed_of, IsValid, IsSuited}
use Rattle.box_tree.proofs.MoveLemmas.{each-placed}
use Rattle.spaces.specs.Spaces.{space, fine_point, local_point_in}
use Rattle.spaces.specs.Values.{values_below}
use Rattle.scroll_clip.specs.Curves.{HasCurvesInRange}
use Rattle.scroll_clip.specs.Clips.{inside_clips}
use Rattle.stacking.specs.Counting.{items_in}
use Rattle.point_query.specs.Elements.{part_admits, row_holds, admits, is_inside}
use Rattle.tree_edits.specs.Bounds.{part_rect, viewport_rect, is_singular, bounds_in, view_bounds}
use Rattle.point_query.specs.Near.{meets_cell_at, near_items, holds_at}
use Rattle.point_query.proofs.LocalLemmas.{IsHeldIn, held-admitted}
use Rattle.point_query.proofs.DenominatorLemmas.{denominator-space}
use Rattle.point_query.proofs.HullLemmas.{HoldsFine, holds-hull, holds-shared}

-- bounds meet the cell of each point that they hold
met-held : (bounds : Rect) (x y : ℤ) → pos 0 ≤ℤ bounds.l → pos 0 ≤ℤ bounds.t → Holds bounds x y → IsTrue (meets_cell_at bounds x y)
met-held bounds x y left top holds =
    (AreCellsOfPoints-positive bounds left top (line_of (level_of bounds) x) (line_of (level_of bounds) y)).1 (x, y, holds, refl, refl)

-- bounds that hold a point pass the test of it
pub held-test : (bounds : Rect) (x y : ℤ) → Holds bounds x y → holds_at bounds x y ≡ true
held-test bounds x y holds =
    let left : int_le bounds.l x ≡ true = grind (arith, ints, holds.from_left) in
    let right : int_lt x bounds.r ≡ true = grind (arith, ints, holds.before_right) in
    let top : int_le bounds.t y ≡ true = grind (arith, ints, holds.from_top) in
    let bottom : int_lt y bounds.b ≡ true = grind (arith, ints, holds.before_bottom) in
    rw (left, right, top, bottom) refl

-- the viewport holds a point that is inside
held-inside : (v : Viewport) (x y : ℤ) → is_inside v x y ≡ true → Holds (viewport_rect v) x y
held-inside v x y inside = record {
  from_left = grind (arith, ints);
  before_right = grind (arith, ints);
  from_top = grind (arith, ints);
  before_bottom = grind (arith, ints);
}

-- a space in which a point has a local point isn't singular
regular-with_point : (m : Parts) (x y : ℤ) (at : ℤ × ℤ) → point_in m x y ≡ Some at → is_singular m ≡ false
unfolding point_in
regular-with_point m x y at is = by_determinant (determinant m) is
  where
    by_determinant : (w : ℤ) → rounded_down (pos 64 *ℤ (preimage m x y).x) (pos 64 *ℤ (preimage m x y).y) w ≡ Some at → int_eq w (pos 0) ≡ false
    by_determinant (pos zero) none = absurd cc
    by_determinant (pos (suc w)) some = grind (arith, ints)
    by_determinant (negsuc w) some = grind (arith, ints)

-- what is so of bounds that hold a point and lie right of and below the origin
module _ (x y : ℤ) (P : Rect → Type 0) (base : (bounds : Rect) → Holds bounds x y → pos 0 ≤ℤ bounds.l → pos 0 ≤ℤ bounds.t → P bounds) where
  -- the bounds of a rectangle that holds a local point
  of-local : (v : Viewport) (m : Parts) (r : Rect) (at : ℤ × ℤ) → pos 0 <ℤ m.q → is_inside v x y ≡ true → point_in m x y ≡ Some at → HoldsFine r at.0 at.1 → P (bounds_in v m r)
  of-local v m r at denominator inside is held =
      subst (λ b. P (if b then no_rect else shared_part (hull_of m r) (viewport_rect v))) (sym (regular-with_point m x y at is))
      (holds-shared (hull_of m r) (viewport_rect v) x y (holds-hull m r x y denominator at is held) (held-inside v x y inside) P base)

  -- one part of a node, by the place of the node and its space
  module _ (v : Viewport) (inside : is_inside v x y ≡ true) (part : Part) where
    -- a part that is admitted at a local point
    of-part : (n : Label) (values : Inherited) (m : Parts) (at : ℤ × ℤ) → HasCurvesInRange n → pos 0 <ℤ m.q → point_in m x y ≡ Some at → part_admits n values (fine_point at) part ≡ true →
        P (option_map_or (bounds_in v m) (part_rect n values part) no_rect)
    of-part n values m at ranges denominator is admitted = by_rect (part_rect n values part) (held-admitted n values (fine_point at) part ranges admitted)
      where
        by_rect : (found : Option Rect) → IsHeldIn found at.0 at.1 → P (option_map_or (bounds_in v m) found no_rect)
        by_rect None none = absurd none
        by_rect (Some r) held = of-local v m r at denominator inside is held

    abbrev row : Option Placed → Option Parts → Bool
    row placed s = option_map_or (λ p. option_map_or (λ at. part_admits p.label (values_below p.above p.label) at part) (local_point_in s x y) false) placed false

    abbrev bounds : Option Placed → Option Parts → Rect
    bounds placed s = option_map_or (λ m. option_map_or (bounds_in v m) (option_and_then (λ p. part_rect p.label (values_below p.above p.label) part) placed) no_rect) s no_rect

    of-placed : (placed : Option Placed) (s : Option Parts) → IfSome placed (λ p. HasCurvesInRange p.label) → IfSome s (λ m. pos 0 <ℤ m.q) → row placed s ≡ true → P (bounds placed s)
    of-placed None s ranges denominator none = absurd (false≢true none)
    of-placed (Some p) None ranges denominator none = absurd (false≢true none)
    of-placed (Some p) (Some m) ranges denominator is = by_point (point_in m x y) refl is
      where
        by_point : (found : Option (ℤ × ℤ)) → point_in m x y ≡ found → option_map_or (λ at. part_admits p.label (values_below p.above p.label) at part) (option_map fine_point found) false ≡ true →
            P (bounds (Some p) (Some m))
        by_point None found none = absurd (false≢true none)
        by_point (Some at) found admitted = of-part p.label (values_below p.above p.label) m at ranges denominator found admitted

-- a node of a valid page has curves within their limits
curves-placed : (page : Contents) (id : ℕ) → IsValid page → IfSome (placed_of page id) (λ p. HasCurvesInRange p.label)
curves-placed page id valid = by_place (placed_of page id) refl
  where
    by_place : (o : Option Placed) → placed_of page id ≡ o → IfSome o (λ p. HasCurvesInRange p.label)
    by_place None found = tt
    by_place (Some p) found =
        let suited = (each-placed IsSuited page.tree [] id p valid.suited found).0 in
        record { border = suited.style_in_range.border; radii = suited.style_in_range.radii; boxes = suited.in_range }

-- what is so of bounds that hold the point is so of those of an item that is admitted there
of-admitted : (x y : ℤ) (P : Rect → Type 0) (base : (bounds : Rect) → Holds bounds x y → pos 0 ≤ℤ bounds.l → pos 0 ≤ℤ bounds.t → P bounds) (page : Contents) (item : Item) → IsValid page → is_inside page.viewport x y ≡ true →
    admits page x y item ≡ true → P (view_bounds page item)
unfolding view_bounds
of-admitted x y P base page item valid inside admitted =
    of-placed x y P base page.viewport inside item.part (placed_of page item.node) (space page item.node)
    (curves-placed page item.node valid) (denominator-space page valid item.node) (and_parts (row_holds page x y item) (inside_clips page item.node x y) admitted).0

-- the bounds of an item that is admitted meet the cell of the point
pub met-admitted : (page : Contents) (x y : ℤ) (item : Item) → IsValid page → is_inside page.viewport x y ≡ true → admits page x y item ≡ true → meets_cell_at (view_bounds page item) x y ≡ true
met-admitted page x y item = of-admitted x y (λ bounds. IsTrue (meets_cell_at bounds x y)) (λ bounds holds left top. met-held bounds x y left top holds) page item

-- and hold the point
pub bounds-admitted : (page : Contents) (x y : ℤ) (item : Item) → IsValid page → is_inside page.viewport x y ≡ true → admits page x y item ≡ true → holds_at (view_bounds page item) x y ≡ true
bounds-admitted page x y item = of-admitted x y (λ bounds. IsTrue (holds_at bounds x y)) (λ bounds holds left top. held-test bounds x y holds) page item

-- a member that passes a test is one of those that do
Contains-filter : {A : Type 0} (test : A → Bool) (xs : List A) (x : A) → Contains xs x → test x ≡ true → Contains (filter test xs) x
Contains-filter test [] x (k, within, at) is = absurd (omega arith)
Contains-filter test (y ∷ ys) x (zero, within, at) is =
    subst (λ b. Contains (cond b (y ∷ filter test ys) (filter test ys)) x) (sym (ap test at ∙ is)) (0, omega arith, at)
Contains-filter test (y ∷ ys) x (suc k, within, at) is = by_test (test y) (Contains-filter test ys x (k, omega (arith, within), at) is)
  where
    by_test : (kept : Bool) → Contains (filter test ys) x → Contains (cond kept (y ∷ filter test ys) (filter test ys)) x
    by_test true (i, before, there) = (suc i, omega (arith, before), there)
    by_test false there = there

pub near-admitted : (page : Contents) (x y : ℤ) (item : Item) → IsValid page → is_inside page.viewport x y ≡ true → Contains (items_in [] page.tree) item → admits page x y item ≡ true → Contains (near_items page x y) item
near-admitted page x y item valid inside among admitted =
    Contains-filter (λ item. meets_cell_at (view_bounds page item) x y) (items_in [] page.tree) item among (met-admitted page x y item valid inside admitted)
