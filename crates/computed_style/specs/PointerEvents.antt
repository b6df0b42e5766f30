-- SVG 2, "The 'pointer-events' property": by each value, where the pointer has to be, and what else has to hold, so that
-- an element can be the target of a pointer event.
use Rattle.std.specs.Prelude.{Bool, false, true, ◌&&◌, ◌||◌}
use Rattle.computed_style.specs.declared.pointer_events.PointerEvents.{PointerEvents}
use Rattle.computed_style.specs.declared.pointer_events.PointerEvents.TheVariants.{Auto, None, VisiblePainted, VisibleFill, VisibleStroke, Visible, Painted, Fill, Stroke, All}
use Rattle.computed_style.specs.declared.inherited.Inherited.{Inherited}

-- the pointer is over the interior and 'fill' isn't none, or it is over the perimeter and 'stroke' isn't none
abbrev pub is_over_paint : Inherited → (over_fill over_stroke : Bool) → Bool
is_over_paint values over_fill over_stroke = (over_fill && values.fill) || (over_stroke && values.stroke)

-- The table: one equation for each value of 'pointer-events'. On a shape 'auto' acts as 'visiblePainted'.
abbrev pub is_target_by : PointerEvents → Inherited → (over_fill over_stroke : Bool) → Bool
is_target_by Auto values over_fill over_stroke = values.visible && is_over_paint values over_fill over_stroke
is_target_by VisiblePainted values over_fill over_stroke = values.visible && is_over_paint values over_fill over_stroke
is_target_by VisibleFill values over_fill over_stroke = values.visible && over_fill
is_target_by VisibleStroke values over_fill over_stroke = values.visible && over_stroke
is_target_by Visible values over_fill over_stroke = values.visible && (over_fill || over_stroke)
is_target_by Painted values over_fill over_stroke = is_over_paint values over_fill over_stroke
is_target_by Fill values over_fill over_stroke = over_fill
is_target_by Stroke values over_fill over_stroke = over_stroke
is_target_by All values over_fill over_stroke = over_fill || over_stroke
is_target_by None values over_fill over_stroke = false

-- the shape can be the target of a pointer that is over its interior or its perimeter or not
abbrev pub shape_is_target : Inherited → (over_fill over_stroke : Bool) → Bool
shape_is_target values over_fill over_stroke = is_target_by values.pointer values over_fill over_stroke

-- 'none' takes a CSS box out of the way of the pointer; every other value lets it be a target
abbrev pub lets_boxes_be_targets : PointerEvents → Bool
lets_boxes_be_targets Auto = true
lets_boxes_be_targets VisiblePainted = true
lets_boxes_be_targets VisibleFill = true
lets_boxes_be_targets VisibleStroke = true
lets_boxes_be_targets Visible = true
lets_boxes_be_targets Painted = true
lets_boxes_be_targets Fill = true
lets_boxes_be_targets Stroke = true
lets_boxes_be_targets All = true
lets_boxes_be_targets None = false

-- a CSS box can be the target of a pointer over it
abbrev pub box_is_target : Inherited → Bool
box_is_target values = values.visible && lets_boxes_be_targets values.pointer
