-- The values of a node from those of its parent.
use Rattle.std.proofs.Common.{◌≡◌, ℕ, List, [], ◌∷◌, map, reverse, Option, Some, None, false, is_some, refl, sym, ap, ◌∙◌}
use Rattle.std.specs.Prelude.{fold, unwrap_or, ℤ, IfSome}
use Rattle.std.specs.Option.{option_map_or}
use Rattle.std.proofs.lemmas.List.{reverse-append}
use Rattle.std.proofs.lemmas.List.Sums.{fold-append}
use Rattle.computed_style.specs.declared.style.Style.{Style}
use Rattle.computed_style.specs.declared.inherited.Inherited.{Inherited}
use Rattle.computed_style.specs.Ranges.{IsSide}
use Rattle.computed_style.specs.Inheritance.{computed, initial_values}
use Rattle.box_tree.specs.declared.node.Node.{Node}
use Rattle.box_tree.specs.Forest.{Label, Placed}
use Rattle.box_tree.specs.Contents.{Contents, node_of, placed_of, has_id, IsValid}
use Rattle.box_tree.specs.Edited.{ancestors_below}
use Rattle.box_tree.proofs.ContainingLemmas.{standing, label-seen, ancestors-seen, above-seen}
use Rattle.spaces.specs.Values.{values_along}

-- one node more, below the others
pub values_along-cons : (n : Label) (above : List Label) → values_along (n ∷ above) ≡ computed (values_along above) n.style
values_along-cons n above =
    let styles = map (λ m. m.style) above in
    ap (λ (order : List Style). fold computed initial_values order) (reverse-append (n.style ∷ []) styles)
    ∙ fold-append computed initial_values (reverse styles) (n.style ∷ [])

-- the width of a stroke stays within its limits
pub width-computed : (above : Inherited) (own : Style) → IfSome own.stroke_width (IsSide 26) → IsSide 26 above.stroke_width → IsSide 26 (computed above own).stroke_width
width-computed above own declared inherited = by_width own.stroke_width declared
  where
    by_width : (o : Option ℤ) → IfSome o (IsSide 26) → IsSide 26 (unwrap_or o above.stroke_width)
    by_width None is = inherited
    by_width (Some width) is = is

-- an id of no node has nothing above it
pub ancestors_below-absent : (page : Contents) (id : ℕ) → has_id page id ≡ false → ancestors_below page id ≡ []
ancestors_below-absent page id absent = by_place (placed_of page id) absent
  where
    by_place : (o : Option Placed) → is_some o ≡ false → option_map_or (λ p. p.label ∷ p.above) o [] ≡ []
    by_place None is = refl
    by_place (Some p) is = absurd cc

module _ (page : Contents) (valid : IsValid page) (id : ℕ) (node : Node) (seen : node_of page id ≡ Some node) where
  -- one step down from the parent
  pub values_along-seen : values_along (ancestors_below page id) ≡ computed (values_along (ancestors_below page node.parent)) node.style
  values_along-seen =
      ap (λ (nodes : List Label). values_along nodes) (ancestors-seen page valid id node seen)
      ∙ values_along-cons (standing page valid id node seen).label (standing page valid id node seen).above
      ∙ ap (λ (above : List Label). computed (values_along above) (standing page valid id node seen).label.style) (sym (above-seen page valid id node seen))
      ∙ ap (λ (l : Label). computed (values_along (ancestors_below page node.parent)) l.style) (sym (label-seen page valid id node seen))
