-- A value that is handed down along a list of elements is the one that is declared nearest to its end.
use Rattle.std.proofs.Common.{◌≡◌, Option, None, Some, List, [], ◌∷◌, fold, unwrap_or, refl, ◌∙◌, ap}
use Rattle.std.specs.Option.{option_or}
use Rattle.computed_style.specs.declared.style.Style.{Style}
use Rattle.computed_style.specs.declared.inherited.Inherited.{Inherited}
use Rattle.computed_style.specs.Inheritance.{computed, nearest, inherited_values, initial_values, IsNearestDeclared}

-- of two declared values and a value above them, the first that is there is taken
unwrap_or-option_or : {A : Type 0} (near far : Option A) (above : A) →
    unwrap_or near (unwrap_or far above) ≡ unwrap_or (option_or near far) above
unwrap_or-option_or None far above = refl
unwrap_or-option_or (Some x) far above = refl

-- for a property that one step hands down
handed_down : {A : Type 0} (declared_value : Style → Option A) (value : Inherited → A)
    (step : (above : Inherited) (own : Style) → value (computed above own) ≡ unwrap_or (declared_value own) (value above))
    (styles : List Style) (above : Inherited) →
    value (fold computed above styles) ≡ unwrap_or (nearest declared_value styles) (value above)
handed_down declared_value value step [] above = refl
handed_down declared_value value step (own ∷ styles) above =
    handed_down declared_value value step styles (computed above own)
    ∙ (ap (λ v. unwrap_or (nearest declared_value styles) v) (step above own)
    ∙ unwrap_or-option_or (nearest declared_value styles) (declared_value own) (value above))

pub nearest_is_taken : (styles : List Style) → IsNearestDeclared styles (inherited_values styles)
nearest_is_taken styles = record {
  visible = handed_down (λ s. s.visible) (λ v. v.visible) (λ above own. refl) styles initial_values;
  pointer = handed_down (λ s. s.pointer) (λ v. v.pointer) (λ above own. refl) styles initial_values;
  fill = handed_down (λ s. s.fill) (λ v. v.fill) (λ above own. refl) styles initial_values;
  stroke = handed_down (λ s. s.stroke) (λ v. v.stroke) (λ above own. refl) styles initial_values;
  stroke_width = handed_down (λ s. s.stroke_width) (λ v. v.stroke_width) (λ above own. refl) styles initial_values;
  rule = handed_down (λ s. s.rule) (λ v. v.rule) (λ above own. refl) styles initial_values;
  ends = handed_down (λ s. s.ends) (λ v. v.ends) (λ above own. refl) styles initial_values;
}
