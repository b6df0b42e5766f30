-- The bounds of an item lie in the viewport, and are those of its part in the space and by the values that a table has of its
-- node.
use Rattle.std.proofs.Common.{◌≡◌, ℕ, ℤ, pos, ◌+ℤ◌, ◌*ℤ◌, ◌<ℤ◌, ◌≤ℤ◌, inl, inr, List, [], ◌∷◌, Option, Some, None, IsSome, Bool, true, false, if◌then◌else◌, refl, sym, ap, subst, ◌∙◌, arith}
use Rattle.std.specs.Prelude.{IfSome, int_lt, ◌&&◌}
use Rattle.std.specs.Int.{int_max, int_min}
use Rattle.std.specs.Option.{option_map, option_map_or, option_and_then}
use Rattle.std.proofs.lemmas.Int.{ints, clamps}
use Rattle.fractions.specs.declared.rect.Rect.{Rect}
use Rattle.affine.specs.declared.map.Parts.{Parts}
use Rattle.affine.proofs.FloorLemmas.{IsFloor-floor_of}
use Rattle.affine.specs.Hull.{hull_of, no_rect, shared_part}
use Rattle.poly_shapes.specs.declared.point.Bounds.{Bounds}
use Rattle.poly_shapes.specs.declared.point.Point.{Point}
use Rattle.poly_shapes.specs.Extent.{bounds_of, moved_out}
use Rattle.poly_shapes.proofs.ExtentLemmas.{bounds_of-holds}
use Rattle.svg_shapes.specs.declared.shape.Shape.{Shape}
use Rattle.svg_shapes.specs.Shapes.{base_points, shape_bounds}
use Rattle.computed_style.specs.declared.inherited.Inherited.{Inherited}
use Rattle.computed_style.specs.Ranges.{IsSide}
use Rattle.box_tree.specs.declared.item.Item.{Item}
use Rattle.box_tree.specs.declared.node.Node.{Node}
use Rattle.box_tree.specs.declared.viewport.Viewport.{Viewport}
use Rattle.box_tree.specs.Forest.{Label, Placed}
use Rattle.box_tree.specs.Contents.{Contents, node_of, IsValid}
use Rattle.box_tree.specs.Kept.{label_of}
use Rattle.box_tree.proofs.PlacedLemmas.{IsSeenAt, seen_at}
use Rattle.spatial_index.specs.Cells.{IsEmptyOrInside}
use Rattle.spaces.specs.declared.table.entry.Entry.{Entry}
use Rattle.spaces.specs.Spaces.{space}
use Rattle.spaces.specs.Table.{entry_of}
use Rattle.spaces.specs.Values.{values_below}
use Rattle.spaces.proofs.TableFrameLemmas.{entry-space, entry-values, entry-width}
use Rattle.tree_edits.specs.Bounds.{unit_at, part_rect, local_rect, viewport_rect, is_singular, bounds_in, view_bounds}
use Rattle.tree_edits.specs.Cells.{region_of}

-- ---- in the viewport

no_rect-empty : (v : Viewport) → IsEmptyOrInside (region_of v) no_rect
no_rect-empty v = inl (inl (omega (arith, ints)))

-- what a rectangle and the viewport share
inside-shared : (v : Viewport) (h : Rect) → IsEmptyOrInside (region_of v) (shared_part h (viewport_rect v))
inside-shared v h = by_test (int_lt s.l s.r && int_lt s.t s.b)
  where
    s : Rect
    s = record { l = int_max h.l (pos 0); t = int_max h.t (pos 0); r = int_min h.r (v.w +ℤ pos 1); b = int_min h.b (v.h +ℤ pos 1) }

    by_test : (some : Bool) → IsEmptyOrInside (region_of v) (if some then s else no_rect)
    by_test true = inr (record {
      from_left = omega (arith, ints, clamps);
      from_top = omega (arith, ints, clamps);
      to_right = omega (arith, ints, clamps);
      to_bottom = omega (arith, ints, clamps);
    })
    by_test false = no_rect-empty v

inside-bounds_in : (v : Viewport) (m : Parts) (r : Rect) → IsEmptyOrInside (region_of v) (bounds_in v m r)
inside-bounds_in v m r = by_test (is_singular m)
  where
    by_test : (singular : Bool) → IsEmptyOrInside (region_of v) (if singular then no_rect else shared_part (hull_of m r) (viewport_rect v))
    by_test true = no_rect-empty v
    by_test false = inside-shared v (hull_of m r)

-- the bounds of an item are empty or lie in the region of the viewport
pub inside-view_bounds : (page : Contents) (item : Item) → IsEmptyOrInside (region_of page.viewport) (view_bounds page item)
unfolding view_bounds
inside-view_bounds page item = by_space (space page item.node) (local_rect page item)
  where
    by_space : (s : Option Parts) (r : Option Rect) → IsEmptyOrInside (region_of page.viewport) (option_map_or (λ m. option_map_or (bounds_in page.viewport m) r no_rect) s no_rect)
    by_space None r = no_rect-empty page.viewport
    by_space (Some m) None = no_rect-empty page.viewport
    by_space (Some m) (Some r) = inside-bounds_in page.viewport m r

-- ---- of a shape

-- the bounds of a shape have their edges in order, since they hold a point
in_order-shape : (shape : Shape) (width : ℕ) → IfSome (shape_bounds shape width) (λ b. (b.l ≤ℤ b.r) × (b.t ≤ℤ b.b))
in_order-shape shape width = by_points (base_points shape)
  where
    by_points : (points : List Point) → IfSome (option_map (moved_out width) (bounds_of points)) (λ b. (b.l ≤ℤ b.r) × (b.t ≤ℤ b.b))
    by_points [] = tt
    by_points (p ∷ points) =
        let held = bounds_of-holds (p ∷ points) 0 p (omega arith) in
        (omega (arith, ints, held.left, held.right), omega (arith, ints, held.top, held.bottom))

-- the bounds that a shape is given
pub in_order-given : (shape : Shape) (width : ℕ) (b : Bounds) → Some b ≡ shape_bounds shape width → (b.l ≤ℤ b.r) × (b.t ≤ℤ b.b)
in_order-given shape width b is = subst (λ (o : Option Bounds). IfSome o (λ c. (c.l ≤ℤ c.r) × (c.t ≤ℤ c.b))) (sym is) (in_order-shape shape width)

-- a number of fine units lies in its unit
pub unit_at-below : (z : ℤ) → (pos 64 *ℤ unit_at z) ≤ℤ z
unit_at-below z =
    let floor = (IsFloor-floor_of z (pos 64) (λ zero'. absurd (omega (arith, ints, zero')))).at_most (omega (arith, ints)) in
    omega (arith, ints)

pub unit_at-above : (z : ℤ) → z <ℤ (pos 64 *ℤ (unit_at z +ℤ pos 1))
unit_at-above z =
    let next = (IsFloor-floor_of z (pos 64) (λ zero'. absurd (omega (arith, ints, zero')))).next_above (omega (arith, ints)) in
    omega (arith, ints)

-- so units are in the order of what lies in them
pub in_order-units : (x y : ℤ) → x ≤ℤ y → unit_at x ≤ℤ (unit_at y +ℤ pos 1)
in_order-units x y h = omega (arith, ints, unit_at-below x, unit_at-above y)

-- ---- by the entry of the node

module _ (page : Contents) (item : Item) (entry : Option Entry) (kept : entry ≡ entry_of page item.node) where
  -- without a space
  pub bounds-nowhere : option_and_then (λ e. e.space) entry ≡ None → view_bounds page item ≡ no_rect
  unfolding view_bounds
  bounds-nowhere none =
      ap (λ (s : Option Parts). option_map_or (λ m. option_map_or (bounds_in page.viewport m) (local_rect page item) no_rect) s no_rect)
      (sym (entry-space page item.node) ∙ ap (option_and_then (λ e. e.space)) (sym kept) ∙ none)

  some-entry : (s : Parts) → option_and_then (λ e. e.space) entry ≡ Some s → IsSome entry
  some-entry s some = by_entry entry some
    where
      by_entry : (o : Option Entry) → option_and_then (λ e. e.space) o ≡ Some s → IsSome o
      by_entry None none = absurd cc
      by_entry (Some e) is = refl

  -- the width of its stroke is within its limits
  pub width-entered : (v : Inherited) → option_map (λ e. e.values) entry ≡ Some v → IsValid page → IsSide 26 v.stroke_width
  width-entered v some valid = by_entry entry some (subst (λ (o : Option Entry). IfSome o (λ e. IsSide 26 e.values.stroke_width)) (sym kept) (entry-width page item.node valid))
    where
      by_entry : (o : Option Entry) → option_map (λ e. e.values) o ≡ Some v → IfSome o (λ e. IsSide 26 e.values.stroke_width) → IsSide 26 v.stroke_width
      by_entry None none width = absurd cc
      by_entry (Some e) is width =
          let same : e.values ≡ v = cc in
          subst (λ (w : Inherited). IsSide 26 w.stroke_width) same width

  -- with a space and values
  pub bounds-entered : (s : Parts) (v : Inherited) (node : Node) → option_and_then (λ e. e.space) entry ≡ Some s → option_map (λ e. e.values) entry ≡ Some v → node_of page item.node ≡ Some node →
      view_bounds page item ≡ option_map_or (bounds_in page.viewport s) (part_rect (label_of node) v item.part) no_rect
  unfolding view_bounds
  bounds-entered s v node space_is values_are seen =
      ap (λ (o : Option Parts). option_map_or (λ m. option_map_or (bounds_in page.viewport m) (local_rect page item) no_rect) o no_rect)
      (sym (entry-space page item.node) ∙ ap (option_and_then (λ e. e.space)) (sym kept) ∙ space_is)
      ∙ ap (λ (r : Option Rect). option_map_or (bounds_in page.viewport s) r no_rect) rect_is
    where
      place_is : IsSeenAt page item.node node
      place_is = seen_at page item.node node seen

      told : Some (values_below place_is.place.above place_is.place.label) ≡ Some v
      told =
          sym (ap (option_map (λ p. values_below p.above p.label)) place_is.found)
          ∙ sym (entry-values page item.node (subst IsSome kept (some-entry s space_is)))
          ∙ ap (option_map (λ e. e.values)) (sym kept)
          ∙ values_are

      inherited_is : values_below place_is.place.above place_is.place.label ≡ v
      inherited_is = let t = told in cc

      rect_is : local_rect page item ≡ part_rect (label_of node) v item.part
      rect_is =
          ap (λ (o : Option Placed). option_and_then (λ p. part_rect p.label (values_below p.above p.label) item.part) o) place_is.found
          ∙ ap (λ (w : Inherited). part_rect place_is.place.label w item.part) inherited_is
          ∙ ap (λ (l : Label). part_rect l v item.part) (ap label_of place_is.node_is)
