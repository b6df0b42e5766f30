-- The local rectangle of a part of a node holds each local point at which the part is admitted. A box and a content lie inside
-- the border edges of their box; the bounds of a shape hold what its interior and its perimeter hold.
use Rattle.std.proofs.Common.{◌≡◌, ℕ, ℤ, unsigned_abs, ◌⊎◌, inl, inr, Option, Some, None, IsSomeAnd, Bool, true, false, Decides, refl, sym, ◌∙◌, arith}
use Rattle.std.specs.Prelude.{◌&&◌, int_le, slice_get}
use Rattle.std.specs.Option.{option_map, option_map_or, option_and_then}
use Rattle.std.proofs.lemmas.Bool.{false≢true, and_parts}
use Rattle.std.proofs.lemmas.Bool.Decides.{Decides-and}
use Rattle.std.proofs.lemmas.Int.{ints}
use Rattle.fractions.specs.declared.rect.Rect.{Rect}
use Rattle.corner_shapes.specs.Held.{in_rounded}
use Rattle.corner_shapes.proofs.HeldLemmas.{le-decides, in_rounded-decides}
use Rattle.poly_shapes.specs.declared.point.Bounds.{Bounds}
use Rattle.poly_shapes.specs.declared.point.Cap.{Cap}
use Rattle.poly_shapes.specs.declared.point.FillRule.{FillRule}
use Rattle.poly_shapes.specs.Extent.{bounds_of, Holds, moved_out}
use Rattle.poly_shapes.proofs.ExtentLemmas.{bounds_of-holds}
use Rattle.poly_shapes.proofs.NearLemmas.{strokes-within}
use Rattle.poly_shapes.proofs.OutsideLemmas.{fills-in_bounds}
use Rattle.svg_shapes.specs.declared.shape.Shape.{Shape}
use Rattle.svg_shapes.specs.Shapes.{base_points, shape_bounds}
use Rattle.svg_shapes.specs.Held.{is_in_interior, is_on_perimeter}
use Rattle.svg_shapes.proofs.HeldLemmas.{same_interior, same_perimeter}
use Rattle.svg_shapes.proofs.ReachLemmas.{IsReached, interior-reach, perimeter-reach}
use Rattle.computed_style.specs.declared.inherited.Inherited.{Inherited}
use Rattle.computed_style.specs.declared.pointer_events.PointerEvents.{PointerEvents}
use Rattle.computed_style.specs.declared.pointer_events.PointerEvents.TheVariants as pointer_events
use Rattle.computed_style.specs.PointerEvents.{is_target_by, shape_is_target, box_is_target}
use Rattle.box_tree.specs.declared.item.Part.{Part}
use Rattle.box_tree.specs.declared.item.Part.TheVariants.{Box, Content, Outline}
use Rattle.box_tree.specs.declared.piece.Piece.{Piece}
use Rattle.box_tree.specs.Forest.{Label}
use Rattle.spaces.specs.declared.space.FinePoint.{FinePoint}
use Rattle.spaces.proofs.WalkLemmas.{and-false}
use Rattle.spaces.proofs.WidthLemmas.{side-at}
use Rattle.scroll_clip.specs.Curves.{border_curve, padding_curve, HasCurvesInRange}
use Rattle.tree_edits.specs.Bounds.{shape_in, box_rect, units_around, part_rect}
use Rattle.tree_edits.proofs.BoundsLemmas.{unit_at-below, unit_at-above}
use Rattle.point_query.specs.Elements.{part_admits}
use Rattle.point_query.specs.Outlines.{fill_rule_of, cap_of, is_over_fill, is_over_stroke, shape_admits}
use Rattle.point_query.proofs.HullLemmas.{HoldsFine}

-- some rectangle of whole units holds a point in fine units
abbrev pub IsHeldIn : Option Rect → (x y : ℤ) → Type 0
IsHeldIn found x y = IsSomeAnd found (λ r. HoldsFine r x y)

-- ---- boxes

border-held : (n : Label) (box : Piece) (x y : ℤ) → in_rounded (border_curve n box) x y ≡ true → HoldsFine (box_rect box) x y
unfolding border_curve
border-held n box x y held =
    let between = ((in_rounded-decides (border_curve n box) x y).0 held).between in
    record { left = between.left; right = between.right; top = between.top; bottom = between.bottom }

-- the padding curve lies inside the border curve
padding-held : (n : Label) (box : Piece) (x y : ℤ) → HasCurvesInRange n → in_rounded (padding_curve n box) x y ≡ true → HoldsFine (box_rect box) x y
unfolding border_curve padding_curve
padding-held n box x y ranges held =
    let between = ((in_rounded-decides (padding_curve n box) x y).0 held).between in
    let width = λ (k : ℕ). side-at n.style.border k ranges.border in
    record {
      left = omega (arith, ints, between.left, (width 3).0);
      right = omega (arith, ints, between.right, (width 1).0);
      top = omega (arith, ints, between.top, (width 0).0);
      bottom = omega (arith, ints, between.bottom, (width 2).0);
    }

held-in_box : (holds : Piece → Bool) (x y : ℤ) → ((box : Piece) → holds box ≡ true → HoldsFine (box_rect box) x y) →
    (found : Option Piece) → option_map_or holds found false ≡ true → IsHeldIn (option_map box_rect found) x y
held-in_box holds x y held None none = absurd (false≢true none)
held-in_box holds x y held (Some box) is = held box is

-- ---- outlines

-- bounds that hold a point, by a test of it
holds-decides : (b : Bounds) (x y : ℤ) → Decides ((int_le b.l x && int_le x b.r) && (int_le b.t y && int_le y b.b)) (Holds b x y)
holds-decides b x y =
    let across = Decides-and (int_le b.l x) (int_le x b.r) (le-decides b.l x) (le-decides x b.r) in
    let down = Decides-and (int_le b.t y) (int_le y b.b) (le-decides b.t y) (le-decides y b.b) in
    let both = Decides-and (int_le b.l x && int_le x b.r) (int_le b.t y && int_le y b.b) across down in (
      λ t. let is = both.0 t in record { left = is.0.0; right = is.0.1; top = is.1.0; bottom = is.1.1 },
      λ h. both.1 ((h.left, h.right), (h.top, h.bottom)),
    )

-- what a test decides holds where another test would be false without it, and is true
by_other_test : (P : Type 0) (test other : Bool) → Decides test P → ((P → ⊥) → other ≡ false) → other ≡ true → P
by_other_test P true other decides without is = decides.0 refl
by_other_test P false other decides without is = absurd (false≢true (sym (without (λ p. false≢true (decides.1 p))) ∙ is))

by_reach : (width : ℕ) (x y : ℤ) (found : Option Bounds) (other : Bool) → ((IsReached width x y found → ⊥) → other ≡ false) → other ≡ true → IsReached width x y found
by_reach width x y None other without is = absurd (false≢true (sym (without (λ no. no)) ∙ is))
by_reach width x y (Some b) other without is = by_other_test _ _ other (holds-decides (moved_out width b) x y) without is

interior-reached : (shape : Shape) (rule : FillRule) (width : ℕ) (x y : ℤ) → is_in_interior shape rule x y ≡ true → IsReached width x y (bounds_of (base_points shape))
interior-reached shape rule width x y =
    by_reach width x y (bounds_of (base_points shape)) (is_in_interior shape rule x y)
    (λ never. sym (same_interior false shape rule x y (
      λ t. absurd (false≢true t),
      λ held. absurd (never (interior-reach (λ rule' outline x' y' filled. fills-in_bounds rule' outline.points outline.subs x' y' filled) bounds_of-holds shape rule width x y held)),
    )))

perimeter-reached : (shape : Shape) (width : ℕ) (ends : Cap) (x y : ℤ) → is_on_perimeter shape width ends x y ≡ true → IsReached width x y (bounds_of (base_points shape))
perimeter-reached shape width ends x y =
    by_reach width x y (bounds_of (base_points shape)) (is_on_perimeter shape width ends x y)
    (λ never. sym (same_perimeter false shape width ends x y (
      λ t. absurd (false≢true t),
      λ held. absurd (never (perimeter-reach strokes-within bounds_of-holds shape width ends x y held)),
    )))

-- a shape that the pointer is over nowhere is no target
off-target : (by : PointerEvents) (values : Inherited) → is_target_by by values false false ≡ false
off-target pointer_events.Auto values = and-false values.visible
off-target pointer_events.VisiblePainted values = and-false values.visible
off-target pointer_events.VisibleFill values = and-false values.visible
off-target pointer_events.VisibleStroke values = and-false values.visible
off-target pointer_events.Visible values = and-false values.visible
off-target pointer_events.Painted values = refl
off-target pointer_events.Fill values = refl
off-target pointer_events.Stroke values = refl
off-target pointer_events.All values = refl
off-target pointer_events.None values = refl

over-one : (values : Inherited) (over_fill over_stroke : Bool) → shape_is_target values over_fill over_stroke ≡ true → (over_fill ≡ true) ⊎ (over_stroke ≡ true)
over-one values true over_stroke is = inl refl
over-one values false true is = inr refl
over-one values false false is = absurd (false≢true (sym (off-target values.pointer values) ∙ is))

shape-reached : (shape : Shape) (values : Inherited) (at : FinePoint) → shape_admits shape values at ≡ true → IsReached (unsigned_abs values.stroke_width) at.x at.y (bounds_of (base_points shape))
shape-reached shape values at is = elim (over-one values (is_over_fill shape values at) (is_over_stroke shape values at) is) [
  | inl over ↦ interior-reached shape (fill_rule_of values.rule) (unsigned_abs values.stroke_width) at.x at.y over
  | inr over ↦ perimeter-reached shape (unsigned_abs values.stroke_width) (cap_of values.ends) at.x at.y over
]

held-in_units : (b : Bounds) (x y : ℤ) → Holds b x y → HoldsFine (units_around b) x y
held-in_units b x y held = record {
  left = omega (arith, ints, held.left, unit_at-below b.l);
  right = omega (arith, ints, held.right, unit_at-above b.r);
  top = omega (arith, ints, held.top, unit_at-below b.t);
  bottom = omega (arith, ints, held.bottom, unit_at-above b.b);
}

held-round : (width : ℕ) (x y : ℤ) (found : Option Bounds) → IsReached width x y found → IsHeldIn (option_map units_around (option_map (moved_out width) found)) x y
held-round width x y None none = none
held-round width x y (Some b) held = held-in_units (moved_out width b) x y held

held-in_outline : (values : Inherited) (at : FinePoint) (found : Option Shape) → option_map_or (λ shape. shape_admits shape values at) found false ≡ true →
    IsHeldIn (option_map units_around (option_and_then (λ shape. shape_bounds shape (unsigned_abs values.stroke_width)) found)) at.x at.y
held-in_outline values at None none = absurd (false≢true none)
held-in_outline values at (Some shape) is = held-round (unsigned_abs values.stroke_width) at.x at.y (bounds_of (base_points shape)) (shape-reached shape values at is)

-- ---- every part

pub held-admitted : (n : Label) (values : Inherited) (at : FinePoint) (part : Part) → HasCurvesInRange n → part_admits n values at part ≡ true → IsHeldIn (part_rect n values part) at.x at.y
held-admitted n values at (Box place) ranges is =
    held-in_box (λ box. in_rounded (border_curve n box) at.x at.y) at.x at.y (λ box. border-held n box at.x at.y) (slice_get n.boxes place) (and_parts (box_is_target values) _ is).1
held-admitted n values at Content ranges is =
    held-in_box (λ box. in_rounded (padding_curve n box) at.x at.y) at.x at.y (λ box. padding-held n box at.x at.y ranges) (slice_get n.boxes 0) (and_parts (box_is_target values) _ is).1
held-admitted n values at Outline ranges is = held-in_outline values at (shape_in n.form) is
