-- CSS Cascading and Inheritance 4, "Inheritance": a property that is inherited takes its declared value; where none is
-- declared, it takes the value of the parent, and at the root its initial value.
use Rattle.std.specs.Prelude.{◌≡◌, true, false, pos, Option, None, List, [], ◌∷◌, fold, unwrap_or}
use Rattle.std.specs.Option.{option_or}
use Rattle.computed_style.specs.declared.pointer_events.PointerEvents.TheVariants.{Auto}
use Rattle.computed_style.specs.declared.style.Rule.TheVariants.{NonZero}
use Rattle.computed_style.specs.declared.style.Ends.TheVariants.{Butt}
use Rattle.computed_style.specs.declared.style.Style.{Style}
use Rattle.computed_style.specs.declared.inherited.Inherited.{Inherited}

-- The initial values: CSS 2.2 for visibility; SVG 2 for the others, with a stroke of one user unit, 4,096 fine units.
abbrev pub initial_values : Inherited
initial_values = record {
  visible = true;
  pointer = Auto;
  fill = true;
  stroke = false;
  stroke_width = pos 4096;
  rule = NonZero;
  ends = Butt;
}

-- the values of an element, from those of its parent and what is declared on it
abbrev pub computed : (parent : Inherited) → (declaration : Style) → Inherited
computed parent declaration = record {
  visible = unwrap_or declaration.visible parent.visible;
  pointer = unwrap_or declaration.pointer parent.pointer;
  fill = unwrap_or declaration.fill parent.fill;
  stroke = unwrap_or declaration.stroke parent.stroke;
  stroke_width = unwrap_or declaration.stroke_width parent.stroke_width;
  rule = unwrap_or declaration.rule parent.rule;
  ends = unwrap_or declaration.ends parent.ends;
}

-- the values of the last of these elements, each the parent of the next and the first one the root, by what is
-- declared on each
abbrev pub inherited_values : List Style → Inherited
inherited_values styles = fold computed initial_values styles

-- the last value of a property that is declared along the list
abbrev pub nearest : {A : Type 0} → (Style → Option A) → List Style → Option A
nearest property [] = None
nearest property (style ∷ styles) = option_or (nearest property styles) (property style)

-- each value is the one that is declared nearest to the last element, and the initial value where none is declared
pub record IsNearestDeclared (styles : List Style) (values : Inherited) : Type 0 where
  pub visible : values.visible ≡ unwrap_or (nearest (λ s. s.visible) styles) initial_values.visible
  pub pointer : values.pointer ≡ unwrap_or (nearest (λ s. s.pointer) styles) initial_values.pointer
  pub fill : values.fill ≡ unwrap_or (nearest (λ s. s.fill) styles) initial_values.fill
  pub stroke : values.stroke ≡ unwrap_or (nearest (λ s. s.stroke) styles) initial_values.stroke
  pub stroke_width : values.stroke_width ≡ unwrap_or (nearest (λ s. s.stroke_width) styles) initial_values.stroke_width
  pub rule : values.rule ≡ unwrap_or (nearest (λ s. s.rule) styles) initial_values.rule
  pub ends : values.ends ≡ unwrap_or (nearest (λ s. s.ends) styles) initial_values.ends
