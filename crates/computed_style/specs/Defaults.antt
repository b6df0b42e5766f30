-- What is declared on an element, and what holds where nothing is.
use Rattle.std.specs.Prelude.{Bool, true, false, not, ◌&&◌, ◌==◌, is_none, None, List, [], ◌∷◌, length, ℤ, pos, negsuc}
use Rattle.std.specs.List.{list_all}
use Rattle.computed_style.specs.declared.style.Position.{Position}
use Rattle.computed_style.specs.declared.style.Position.TheVariants.{Static, Relative, Absolute, Fixed}
use Rattle.computed_style.specs.declared.style.Style.{Style}

-- Nothing is declared: no positioning, no float, z-index auto, full opacity, no transform, its origin in the centre,
-- no overflow given, no borders, no radii, display inline; and each inherited property is left to the parent.
abbrev pub empty_style : Style
empty_style = record {
  position = Static;
  floats = false;
  z = None;
  opacity = 1000;
  transform = [];
  origin = None;
  overflow = None;
  border = pos 0 ∷ pos 0 ∷ pos 0 ∷ pos 0 ∷ [];
  radii = pos 0 ∷ pos 0 ∷ pos 0 ∷ pos 0 ∷ pos 0 ∷ pos 0 ∷ pos 0 ∷ pos 0 ∷ [];
  display_block = false;
  visible = None;
  pointer = None;
  fill = None;
  stroke = None;
  stroke_width = None;
  rule = None;
  ends = None;
}

abbrev pub is_static : Position → Bool
is_static Static = true
is_static Relative = false
is_static Absolute = false
is_static Fixed = false

abbrev pub is_zero : ℤ → Bool
is_zero (pos n) = n == 0
is_zero (negsuc n) = false

-- no property that isn't inherited has another value than the initial one
abbrev pub has_initial_flow : Style → Bool
has_initial_flow s = is_static s.position && (not s.floats && (is_none s.z && (s.opacity == 1000 && not s.display_block)))

abbrev pub has_initial_box : Style → Bool
has_initial_box s = (length s.transform == 0) && (is_none s.origin && (is_none s.overflow && (list_all is_zero s.border && list_all is_zero s.radii)))

-- no property that is inherited is declared
abbrev pub inherits_all : Style → Bool
inherits_all s = is_none s.visible && (is_none s.pointer && (is_none s.fill && (is_none s.stroke && (is_none s.stroke_width && (is_none s.rule && is_none s.ends)))))

-- whether a style has the value of the empty one
abbrev pub is_empty : Style → Bool
is_empty s = has_initial_flow s && (has_initial_box s && inherits_all s)
