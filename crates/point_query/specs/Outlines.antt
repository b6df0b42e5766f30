-- The outline of a shape as a target (SVG 2, "The 'pointer-events' property").
use Rattle.std.specs.Prelude.{Bool, false, unsigned_abs}
use Rattle.std.specs.Option.{option_map_or}
use Rattle.poly_shapes.specs.declared.point.Cap.{Cap}
use Rattle.poly_shapes.specs.declared.point.Cap.TheVariants as cap
use Rattle.poly_shapes.specs.declared.point.FillRule.{FillRule}
use Rattle.poly_shapes.specs.declared.point.FillRule.TheVariants as fill_rule
use Rattle.svg_shapes.specs.declared.shape.Shape.{Shape}
use Rattle.svg_shapes.specs.Held.{is_in_interior, is_on_perimeter}
use Rattle.computed_style.specs.declared.inherited.Inherited.{Inherited}
use Rattle.computed_style.specs.declared.style.Rule.{Rule}
use Rattle.computed_style.specs.declared.style.Rule.TheVariants.{NonZero, EvenOdd}
use Rattle.computed_style.specs.declared.style.Ends.{Ends}
use Rattle.computed_style.specs.declared.style.Ends.TheVariants.{Butt, Round, Square}
use Rattle.computed_style.specs.PointerEvents.{shape_is_target}
use Rattle.box_tree.specs.Forest.{Label}
use Rattle.spaces.specs.declared.space.FinePoint.{FinePoint}
use Rattle.tree_edits.specs.Bounds.{shape_in}

-- 'fill-rule' as the rule by which a fill is tested
abbrev pub fill_rule_of : Rule → FillRule
fill_rule_of NonZero = fill_rule.NonZero
fill_rule_of EvenOdd = fill_rule.EvenOdd

-- 'stroke-linecap' as what a stroke has at its ends
abbrev pub cap_of : Ends → Cap
cap_of Butt = cap.Butt
cap_of Round = cap.Round
cap_of Square = cap.Square

-- whether a point lies in the interior of a shape, by its 'fill-rule'
abbrev pub is_over_fill : Shape → Inherited → FinePoint → Bool
is_over_fill shape values at = is_in_interior shape (fill_rule_of values.rule) at.x at.y

-- whether a point lies on the perimeter of a shape, by its 'stroke-width' and its 'stroke-linecap'
abbrev pub is_over_stroke : Shape → Inherited → FinePoint → Bool
is_over_stroke shape values at = is_on_perimeter shape (unsigned_abs values.stroke_width) (cap_of values.ends) at.x at.y

-- whether a shape with these values is a target for a pointer at a point
abbrev pub shape_admits : Shape → Inherited → FinePoint → Bool
shape_admits shape values at = shape_is_target values (is_over_fill shape values at) (is_over_stroke shape values at)

-- whether the outline of a node, where it has one, is a target for a pointer at a local point
abbrev pub outline_admits : Label → Inherited → FinePoint → Bool
outline_admits n values at = option_map_or (λ shape. shape_admits shape values at) (shape_in n.form) false
